-- What holds of each fault of a list of checks; each fault of a sheet stands in its text, under a number from 2 to 8. Assumes nothing.
use Rattle.std.proofs.Common.{◌≡◌, ℕ, ◌+◌, ◌≤◌, Bool, true, false, cond, List, [], ◌∷◌, ◌++◌, map, length, ◌==◌, Some, refl, subst, lit≤, arith}
use Rattle.std.specs.Str.Parse.{digits_value}
use Rattle.units.specs.Faults.{text_fault}
use Rattle.units.specs.declared.fault.Fault.{Fault}
use Rattle.units.specs.declared.fault.Layer.{Layer}
use Rattle.units.specs.declared.fault.Layer.TheVariants.{Field}
use Rattle.sheet.specs.Checks.{Check, Kind, Range, first_broken, number_checks, range_checks, kind_checks, part_checks, line_checks, kind, basis_line, year_line, move_line, end_line, no_line}
use Rattle.sheet.specs.Faults.{Refuses, InText, spot_past}
use Rattle.sheet.specs.Lines.{further, first_line, parts, letter_of}
use Rattle.sheet.specs.Sheets.{Sheet}
use Rattle.sheet.specs.declared.columns.Columns.{Columns}
use Rattle.sheet.specs.declared.spot.Spot.{Spot}

unfoldable pub EachFault : (Fault → Type 0) → List Check → Type 0
EachFault P [] = Unit {0}
EachFault P (c ∷ cs) = P c.fault × EachFault P cs

pub both : (P : Fault → Type 0) (cs ds : List Check) → EachFault P cs → EachFault P ds → EachFault P (cs ++ ds)
unfolding EachFault
both P [] ds first more = more
both P (c ∷ cs) ds first more = (first.0, both P cs ds first.1 more)

-- the faults of fields stand in the line of the first
pub number_faults : (P : Fault → Type 0) (spot : Spot) (fs : List (List ℕ)) → ((offset : ℕ) → P (text_fault 4 Field spot.line offset)) → EachFault P (number_checks spot fs)
unfolding EachFault
number_faults P spot [] each = tt
number_faults P spot (f ∷ fs) each = (each spot.offset, number_faults P (further spot (length f + 1)) fs each)

pub range_faults : (P : Fault → Type 0) (spot : Spot) (fs : List (List ℕ)) (rs : List Range) → ((offset : ℕ) → P (text_fault 5 Field spot.line offset)) → EachFault P (range_checks spot fs rs)
unfolding EachFault
range_faults P spot [] rs each = tt
range_faults P spot (f ∷ fs) [] each = tt
range_faults P spot (f ∷ fs) (r ∷ rs) each = (each spot.offset, range_faults P (further spot (length f + 1)) fs rs each)

-- the first check that does not hold, or one of the rest
here_or_later : (P : Fault → Type 0) (c : Check) (cs : List Check) (fault : Fault) (holds : Bool) → P c.fault → (first_broken cs ≡ Some fault → P fault) → cond holds (first_broken cs) (Some c.fault) ≡ Some fault → P fault
here_or_later P c cs fault true here more broken = more broken
here_or_later P c cs fault false here more broken = let e : c.fault ≡ fault = grind arith in subst P e here

pub first_fault : (P : Fault → Type 0) (cs : List Check) (fault : Fault) → EachFault P cs → first_broken cs ≡ Some fault → P fault
unfolding EachFault
first_fault P [] fault all broken = absurd (grind arith)
first_fault P (c ∷ cs) fault all broken = here_or_later P c cs fault c.holds all.0 (first_fault P cs fault all.1) broken

told : (number : ℕ) (layer : Layer) (line offset : ℕ) → 2 ≤ number → number ≤ 8 → InText 2 8 (text_fault number layer line offset)
told number layer line offset from to = record { line = line; offset = offset; is = refl; from = from; to = to }

at_spot : (number : ℕ) (layer : Layer) (spot : Spot) → 2 ≤ number → number ≤ 8 → InText 2 8 (text_fault number layer spot.line spot.offset)
at_spot number layer spot from to = told number layer spot.line spot.offset from to

-- the rules of a kind on its numbers
RulesInText : Kind → Type 0
RulesInText k = (ns : List ℕ) → EachFault (InText 2 8) (k.rules ns)

either : (b : Bool) (k l : Kind) → RulesInText k → RulesInText l → RulesInText (cond b k l)
either true k l first other = first
either false k l first other = other

rule_faults : (columns : Columns) (s : Sheet) (spot : Spot) (letter : ℕ) → RulesInText (kind columns s spot letter)
unfolding EachFault RulesInText
rule_faults columns s spot letter =
    either (letter == 66) (basis_line columns s spot) _ (λ ns. (at_spot _ _ spot (lit≤ tt) (lit≤ tt), tt))
    (either (letter == 68) (year_line s spot) _ (λ ns. (at_spot _ _ spot (lit≤ tt) (lit≤ tt), (at_spot _ _ spot (lit≤ tt) (lit≤ tt), tt)))
    (either (letter == 84) (move_line s spot) _ (λ ns. (at_spot _ _ spot (lit≤ tt) (lit≤ tt), tt))
    (either (letter == 69) (end_line s spot) (no_line s) (λ ns. (at_spot _ _ spot (lit≤ tt) (lit≤ tt), tt)) (λ ns. tt))))

kind_faults : (spot : Spot) (fs : List (List ℕ)) (k : Kind) → RulesInText k → EachFault (InText 2 8) (kind_checks spot fs k)
unfolding EachFault RulesInText
kind_faults spot fs k rules = (
  at_spot _ _ spot (lit≤ tt) (lit≤ tt),
  both (InText 2 8) (number_checks (further spot 2) fs) _ (number_faults (InText 2 8) (further spot 2) fs (λ offset. told 4 Field spot.line offset (lit≤ tt) (lit≤ tt)))
      (both (InText 2 8) (range_checks (further spot 2) fs k.ranges) _ (range_faults (InText 2 8) (further spot 2) fs k.ranges (λ offset. told 5 Field spot.line offset (lit≤ tt) (lit≤ tt))) (rules (map (digits_value 10) fs))),
)

part_faults : (columns : Columns) (s : Sheet) (spot : Spot) (ps : List (List ℕ)) → EachFault (InText 2 8) (part_checks columns s spot ps)
unfolding EachFault
part_faults columns s spot [] = (at_spot _ _ spot (lit≤ tt) (lit≤ tt), tt)
part_faults columns s spot (head ∷ fs) = kind_faults spot fs (kind columns s spot (letter_of head)) (rule_faults columns s spot (letter_of head))

line_faults : (columns : Columns) (s : Sheet) (spot : Spot) (bytes : List ℕ) → EachFault (InText 2 8) (line_checks columns s spot bytes)
unfolding EachFault
line_faults columns s spot bytes = (at_spot _ _ spot (lit≤ tt) (lit≤ tt), part_faults columns s spot (parts (first_line bytes)))

pub refused_in_text : (columns : Columns) (bytes : List ℕ) (fault : Fault) → Refuses columns bytes fault → InText 2 8 fault
refused_in_text columns bytes fault refuses =
    first_fault (InText 2 8) (line_checks columns refuses.sheet (spot_past refuses.before) refuses.after) fault (line_faults columns refuses.sheet (spot_past refuses.before) refuses.after) refuses.broken
