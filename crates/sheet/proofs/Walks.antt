-- Whole lines that break no rule lead from one sheet to another. Assumes nothing.
use Rattle.std.proofs.Common.{◌≡◌, ℕ, ◌+◌, true, false, List, [], ◌∷◌, ◌++◌, length, ◌==◌, cond, count_by, refl, sym, ap, ap₂, ◌∙◌, subst, arith}
use Rattle.std.proofs.lemmas.List.{append_assoc, length-append}
use Rattle.std.proofs.lemmas.List.Splits.{length-slice_split, slice_split_none}
use Rattle.std.proofs.lemmas.List.Sums.{sum_by-append}
use Rattle.sheet.specs.Checks.{kind, ends_sheet}
use Rattle.sheet.specs.Lines.{is_line_feed, first_line, after_line, parts, spot_after}
use Rattle.sheet.specs.Reading.{Outcome, Reads, ends, ends_here, goes_on, with_line}
use Rattle.sheet.specs.declared.columns.Columns.{Columns}
use Rattle.sheet.specs.Sheets.{Sheet}
use Rattle.sheet.specs.Texts.{line_of, line_text}
use Rattle.sheet.specs.declared.spot.Spot.{Spot}
use Rattle.sheet.proofs.LineParts.{Few, Free, line_free}
use Rattle.sheet.proofs.Unbroken.{Keeps, first_of_text, after_text, parts_of_text, line_kept, line_makes}

-- the spot after some whole lines that begin at a spot
abbrev pub past : Spot → List ℕ → Spot
past spot text = record { line = spot.line + count_by is_line_feed text; offset = spot.offset + length text }

past_append : (spot : Spot) (a b : List ℕ) → past (past spot a) b ≡ past spot (a ++ b)
past_append spot a b =
    ap₂ (λ line offset. record { line = line; offset = offset }) (omega (arith, sum_by-append (λ x. cond (is_line_feed x) 1 0) a b)) (omega (arith, length-append a b))

-- the text of some lines, read from the one sheet, leads to the other, whatever follows
pub record Walks (columns : Columns) (s : Sheet) (text : List ℕ) (to : Sheet) : Type 0 where
  pub on : (spot : Spot) (tail : List ℕ) (outcome : Outcome) → Reads columns to (past spot text) tail outcome → Reads columns s spot (text ++ tail) outcome

pub walk_none : (columns : Columns) (s : Sheet) → Walks columns s [] s
walk_none columns s = record { on = λ spot tail outcome reads. let same : past spot [] ≡ spot = ap₂ (λ line offset. record { line = line; offset = offset }) (omega arith) (omega arith) in rw same at reads }

pub walk_on : (columns : Columns) (s u v : Sheet) (a b : List ℕ) → Walks columns s a u → Walks columns u b v → Walks columns s (a ++ b) v
walk_on columns s u v a b first then =
    record {
      on = λ spot tail outcome reads.
          let behind : Reads columns v (past (past spot a) b) tail outcome = subst (λ x. Reads columns v x tail outcome) (sym (past_append spot a b)) reads in
          subst (λ bytes. Reads columns s spot bytes outcome) (sym (append_assoc a b tail)) (first.on spot (b ++ tail) outcome (then.on (past spot a) tail outcome behind));
    }

-- a line has one line feed
one_feed : (line : List ℕ) → Free 10 line → count_by is_line_feed (line ++ 10 ∷ []) ≡ 1
one_feed line free =
    let none : count_by is_line_feed line ≡ 0 = omega (arith, length-slice_split is_line_feed line, ap length (slice_split_none is_line_feed line free)) in
    sum_by-append (λ x. cond (is_line_feed x) 1 0) line (10 ∷ []) ∙ ap (λ n. n + 1) none

spot_past_line : (spot : Spot) (letter : ℕ) (numbers tail : List ℕ) → (letter == 10) ≡ false → Few numbers → spot_after spot (line_text letter numbers ++ tail) ≡ past spot (line_text letter numbers)
spot_past_line spot letter numbers tail feed few =
    let line = line_of letter numbers in
    let first : length (first_line (line_text letter numbers ++ tail)) ≡ length line = ap length (first_of_text letter numbers tail feed few) in
    ap₂ (λ line offset. record { line = line; offset = offset }) (omega (arith, one_feed line (line_free letter numbers feed few))) (omega (arith, first, length-append line (10 ∷ [])))

-- a line that keeps the rules is a step
pub walk_line : (columns : Columns) (s to : Sheet) (letter : ℕ) (numbers : List ℕ) → (letter == 10) ≡ false → (letter == 59) ≡ false → (letter == 69) ≡ false → ((spot : Spot) → Keeps (kind columns s spot letter) numbers) → ((spot : Spot) → (kind columns s spot letter).makes numbers ≡ to) → Walks columns s (line_text letter numbers) to
walk_line columns s to letter numbers feed semicolon more keeps makes =
    record {
      on = λ spot tail outcome reads.
          let few = (keeps spot).few in
          let bytes = line_text letter numbers ++ tail in
          let sheet : with_line columns s spot bytes ≡ to = line_makes columns s spot letter numbers tail feed semicolon few ∙ makes spot in
          let goes : ends_sheet (parts (first_line bytes)) ≡ false = ap ends_sheet (parts_of_text letter numbers tail feed semicolon few) ∙ more in
          goes_on s spot bytes outcome (line_kept columns s spot letter numbers tail feed semicolon (keeps spot)) goes
          (subst (λ x. Reads columns x (spot_after spot bytes) (after_line bytes) outcome) (sym sheet)
          (subst (λ x. Reads columns to x (after_line bytes) outcome) (sym (spot_past_line spot letter numbers tail feed few))
          (subst (λ x. Reads columns to (past spot (line_text letter numbers)) x outcome) (sym (after_text letter numbers tail feed few)) reads)));
    }

-- the last line that keeps the rules is the end
pub walk_ends : (columns : Columns) (s to : Sheet) (spot : Spot) (rest : List ℕ) → Keeps (kind columns s spot 69) [] → (kind columns s spot 69).makes [] ≡ to → Reads columns s spot (line_text 69 [] ++ rest) (ends to rest)
walk_ends columns s to spot rest keeps makes =
    let bytes = line_text 69 [] ++ rest in
    let sheet : with_line columns s spot bytes ≡ to = line_makes columns s spot 69 [] rest refl refl tt ∙ makes in
    let stops : ends_sheet (parts (first_line bytes)) ≡ true = ap ends_sheet (parts_of_text 69 [] rest refl refl tt) in
    subst (λ o. Reads columns s spot bytes o) (ap₂ ends sheet (after_text 69 [] rest refl tt)) (ends_here s spot bytes (line_kept columns s spot 69 [] rest refl refl keeps) stops)
