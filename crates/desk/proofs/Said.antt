-- A line of a command breaks no rule, and is the text of no other command. Assumes nothing.
use Rattle.std.proofs.Common.{◌≡◌, ℕ, suc, ◌^◌, ◌<◌, ◌==◌, Bool, true, false, not, cond, List, [], ◌∷◌, map, Some, None, Result, Ok, Err, ℤ, pos, negsuc, nat_abs, decimal, IsOkAnd, IfErr, refl, sym, ap, ap₂, subst, ◌∙◌, arith}
use lib.Signed.{mag}
use Rattle.std.specs.Fmt.{signed_decimal}
use Rattle.std.specs.List.{join_with_byte}
use Rattle.std.proofs.lemmas.Fmt.{decimal_injective, signed_decimal_injective}
use Rattle.std.proofs.lemmas.List.Elements.{All-nil, All-cons}
use Rattle.std.proofs.lemmas.List.Splits.{join_with_byte-slice_split, slice_split_none, slice_split_at}
use Rattle.units.specs.Faults.{text_fault}
use Rattle.units.specs.declared.fault.Fault.{Fault}
use Rattle.units.specs.declared.fault.Layer.TheVariants.{Sheet as Whole}
use Rattle.sheet.specs.Checks.{first_broken}
use Rattle.sheet.specs.Fields.{bytes_of}
use Rattle.sheet.specs.Lines.{parts}
use Rattle.sheet.specs.Numerals.{Writes}
use Rattle.sheet.specs.SplitLines.{IsLine}
use Rattle.sheet.specs.SplitLines as split
use Rattle.sheet.specs.declared.line.Line.{Line}
use Rattle.sheet.specs.declared.part.Part.{Part}
use Rattle.sheet.specs.declared.spot.Spot.{Spot}
use Rattle.sheet.proofs.LineParts.{Free, decimal_free}
use Rattle.desk.specs.CommandChecks.{line_checks, command_checks, kind, kind_checks, finds}
use Rattle.desk.specs.Commands.{Command, Allowed, AllowedPlan, IsCommandText, IsCommandLine, command_text, letter, fields, needs_contract, issue, close, alter, leave}
use Rattle.desk.specs.Meanings.{Means, Says, TellsLine}
use Rattle.desk.specs.Parsing.{Makes}
use Rattle.desk.specs.declared.command.Command as code
use Rattle.desk.proofs.Told.{command_told}
use Rattle.desk.proofs.Made.{kept, broken, none_then, some_stays, issue_unbroken, alter_unbroken, close_unbroken}

-- ---- the text of a command, cut up

AllFree : List (List ℕ) → Type 0
AllFree [] = Unit {0}
AllFree (f ∷ fs) = Free 59 f × AllFree fs

parts_joined : (p : List ℕ) (ps : List (List ℕ)) → Free 59 p → AllFree ps → parts (join_with_byte 59 (p ∷ ps)) ≡ p ∷ ps
unfolding AllFree
parts_joined p [] free all = slice_split_none (λ b. b == 59) p free
parts_joined p (q ∷ qs) free all = slice_split_at (λ b. b == 59) p 59 (join_with_byte 59 (q ∷ qs)) free refl ∙ ap (λ ps. p ∷ ps) (parts_joined q qs all.0 all.1)

number_free : (n : ℕ) → n < 10 ^ 11 → Free 59 (decimal n)
number_free n small = decimal_free 59 n (λ h. omega arith) small

signed_free : (z : ℤ) → nat_abs z < 10 ^ 11 → Free 59 (signed_decimal z)
signed_free (pos n) small = number_free n small
signed_free (negsuc n) small = All-cons (λ b. (b == 59) ≡ false) 45 (decimal (suc n)) refl (number_free (suc n) small)

letter_free : (l : ℕ) → (l == 59) ≡ false → Free 59 (l ∷ [])
letter_free l other = All-cons (λ b. (b == 59) ≡ false) l [] other (All-nil (λ b. (b == 59) ≡ false))

pub record Small (s k g : ℕ) : Type 0 where
  pub first : s < 10 ^ 11
  pub second : k < 10 ^ 11
  pub third : g < 10 ^ 11

plan_small : (years s k g : ℕ) → AllowedPlan years s k g → Small s k g
plan_small years s k g p =
    let a = p.amount in
    let f = p.few in
    let y = p.paying in
    record { first = omega arith; second = omega arith; third = omega arith }

pub parts_of_command : (years : ℕ) (c : Command) → Allowed years c → parts (command_text c) ≡ (letter c ∷ []) ∷ fields c
unfolding AllFree
parts_of_command years (issue s k g d) allowed =
    let p = plan_small years s k g allowed.0 in
    let small : d < 10 ^ 11 = omega (arith, allowed.1) in
    parts_joined (81 ∷ []) (fields (issue s k g d)) (letter_free 81 refl) (number_free s p.first, (number_free k p.second, (number_free g p.third, (number_free d small, tt))))
parts_of_command years (close j r) allowed = parts_joined (67 ∷ []) (fields (close j r)) (letter_free 67 refl) (number_free j (omega (arith, allowed.0)), (signed_free r allowed.1, tt))
parts_of_command years (alter s k g) allowed =
    let p = plan_small years s k g allowed in
    parts_joined (65 ∷ []) (fields (alter s k g)) (letter_free 65 refl) (number_free s p.first, (number_free k p.second, (number_free g p.third, tt)))
parts_of_command years leave allowed = parts_joined (76 ∷ []) [] (letter_free 76 refl) tt

-- ---- a command breaks no rule

decimal_writes : (n : ℕ) → n < 10 ^ 11 → Writes (decimal n) n
decimal_writes n small = record { text = refl; most = small }

kind_unbroken : (years : ℕ) (spot : Spot) (c : Command) → Allowed years c → first_broken (kind_checks spot (fields c) (kind years (letter c))) ≡ None
kind_unbroken years spot (issue s k g d) allowed =
    let p = plan_small years s k g allowed.0 in
    issue_unbroken years spot _ _ _ _ s k g d (decimal_writes s p.first) (decimal_writes k p.second) (decimal_writes g p.third) (decimal_writes d (omega (arith, allowed.1))) allowed.0 allowed.1
kind_unbroken years spot (close j r) allowed = close_unbroken years spot _ _ j r (decimal_writes j (omega (arith, allowed.0))) (record { text = refl; most = allowed.1 }) allowed.0
kind_unbroken years spot (alter s k g) allowed =
    let p = plan_small years s k g allowed in
    alter_unbroken years spot _ _ _ s k g (decimal_writes s p.first) (decimal_writes k p.second) (decimal_writes g p.third) allowed
kind_unbroken years spot leave allowed = refl

-- whether a command finds what it needs
finds_letter : (stands : Bool) (c : Command) → finds stands ((letter c ∷ []) ∷ fields c) ≡ cond (needs_contract c) stands (not stands)
finds_letter stands (issue s k g d) = refl
finds_letter stands (close j r) = refl
finds_letter stands (alter s k g) = refl
finds_letter stands leave = refl

as_needed : (need stands : Bool) → need ≡ stands → cond need stands (not stands) ≡ true
as_needed true true e = refl
as_needed true false e = absurd (grind arith)
as_needed false true e = absurd (grind arith)
as_needed false false e = refl

not_as_needed : (need stands : Bool) → (need ≡ stands → ⊥) → cond need stands (not stands) ≡ false
not_as_needed true true other = absurd (other refl)
not_as_needed true false other = refl
not_as_needed false true other = refl
not_as_needed false false other = absurd (other refl)

said_parts : (years : ℕ) (line : List ℕ) (c : Command) → Allowed years c → line ≡ command_text c → parts line ≡ (letter c ∷ []) ∷ fields c
said_parts years line c allowed text = ap parts text ∙ parts_of_command years c allowed

pub finds_contract : (years : ℕ) (stands : Bool) (line : List ℕ) (c : Command) → Allowed years c → line ≡ command_text c → needs_contract c ≡ stands → finds stands (parts line) ≡ true
finds_contract years stands line c allowed text need =
    ap (finds stands) (said_parts years line c allowed text) ∙ finds_letter stands c ∙ as_needed (needs_contract c) stands need

pub finds_none : (years : ℕ) (stands : Bool) (line : List ℕ) (c : Command) → Allowed years c → line ≡ command_text c → (needs_contract c ≡ stands → ⊥) → finds stands (parts line) ≡ false
finds_none years stands line c allowed text need =
    ap (finds stands) (said_parts years line c allowed text) ∙ finds_letter stands c ∙ not_as_needed (needs_contract c) stands need

-- a line that breaks no rule up to 5, and then 13 or nothing
pub refused_early : (years : ℕ) (stands : Bool) (spot : Spot) (line : List ℕ) (fault : Fault) → first_broken (line_checks years spot (parts line)) ≡ Some fault → first_broken (command_checks years stands spot line) ≡ Some fault
refused_early years stands spot line fault some = some_stays (line_checks years spot (parts line)) _ fault some

pub then_standing : (years : ℕ) (stands : Bool) (spot : Spot) (line : List ℕ) → first_broken (line_checks years spot (parts line)) ≡ None → finds stands (parts line) ≡ true → first_broken (command_checks years stands spot line) ≡ None
then_standing years stands spot line none found = none_then (line_checks years spot (parts line)) _ None none (kept _ _ _ found refl)

pub then_not_standing : (years : ℕ) (stands : Bool) (spot : Spot) (line : List ℕ) → first_broken (line_checks years spot (parts line)) ≡ None → finds stands (parts line) ≡ false → first_broken (command_checks years stands spot line) ≡ Some (text_fault 13 Whole spot.line spot.offset)
then_not_standing years stands spot line none found = none_then (line_checks years spot (parts line)) _ _ none (broken _ _ _ found)

pub line_unbroken : (years : ℕ) (spot : Spot) (line : List ℕ) (c : Command) → IsCommandText years line c → first_broken (line_checks years spot (parts line)) ≡ None
line_unbroken years spot line c said = ap (λ ps. first_broken (line_checks years spot ps)) (said_parts years line c said.allowed said.text) ∙ kind_unbroken years spot c said.allowed

pub said_unbroken : (years : ℕ) (stands : Bool) (spot : Spot) (line : List ℕ) (c : Command) → IsCommandLine years stands line c → first_broken (command_checks years stands spot line) ≡ None
said_unbroken years stands spot line c said =
    then_standing years stands spot line (line_unbroken years spot line c (record { text = said.text; allowed = said.allowed })) (finds_contract years stands line c said.allowed said.text said.standing)

-- ---- no two commands have one text

same_number : (m n : ℕ) → m < 10 ^ 11 → n < 10 ^ 11 → decimal m ≡ decimal n → m ≡ n
same_number m n a b e = decimal_injective m n (omega arith) (omega arith) e

rate_small : (r : ℤ) → nat_abs r < 10 ^ 11 → mag r < 2 ^ 63
rate_small (pos n) small = omega arith
rate_small (negsuc n) small = omega arith

same_command : (years : ℕ) (c d : Command) → Allowed years c → Allowed years d → (letter c ∷ []) ∷ fields c ≡ (letter d ∷ []) ∷ fields d → c ≡ d
same_command years (issue s k g x) (issue t l h y) a b e =
    let p = plan_small years s k g a.0 in
    let q = plan_small years t l h b.0 in
    let one = same_number s t p.first q.first cc in
    let two = same_number k l p.second q.second cc in
    let three = same_number g h p.third q.third cc in
    let four = same_number x y (omega (arith, a.1)) (omega (arith, b.1)) cc in
    cc
same_command years (issue s k g x) (close j r) a b e = absurd (grind arith)
same_command years (issue s k g x) (alter t l h) a b e = absurd (grind arith)
same_command years (issue s k g x) leave a b e = absurd (grind arith)
same_command years (close j r) (issue t l h y) a b e = absurd (grind arith)
same_command years (close j r) (close i q) a b e =
    let one = same_number j i (omega (arith, a.0)) (omega (arith, b.0)) cc in
    let two = same_rate r q a.1 b.1 cc in
    cc
  where
    same_rate : (r q : ℤ) → nat_abs r < 10 ^ 11 → nat_abs q < 10 ^ 11 → signed_decimal r ≡ signed_decimal q → r ≡ q
    same_rate r q a b e = signed_decimal_injective r q (rate_small r a) (rate_small q b) e
same_command years (close j r) (alter t l h) a b e = absurd (grind arith)
same_command years (close j r) leave a b e = absurd (grind arith)
same_command years (alter s k g) (issue t l h y) a b e = absurd (grind arith)
same_command years (alter s k g) (close j r) a b e = absurd (grind arith)
same_command years (alter s k g) (alter t l h) a b e =
    let p = plan_small years s k g a in
    let q = plan_small years t l h b in
    let one = same_number s t p.first q.first cc in
    let two = same_number k l p.second q.second cc in
    let three = same_number g h p.third q.third cc in
    cc
same_command years (alter s k g) leave a b e = absurd (grind arith)
same_command years leave (issue t l h y) a b e = absurd (grind arith)
same_command years leave (close j r) a b e = absurd (grind arith)
same_command years leave (alter t l h) a b e = absurd (grind arith)
same_command years leave leave a b e = refl

pub one_command : (years : ℕ) (line : List ℕ) (c d : Command) → Allowed years c → Allowed years d → line ≡ command_text c → line ≡ command_text d → c ≡ d
one_command years line c d a b e f = same_command years c d a b (sym (said_parts years line c a e) ∙ said_parts years line d b f)

-- ---- from fields to lines

pub made_says : (years : ℕ) (whole : Part) (line : Line) (spot : Spot) (result : Result code.Command Fault) → spot ≡ whole.spot → IsLine whole line → Makes years (split.letter line) spot (split.fields line) result → Says years whole result
made_says years whole line spot (Ok command) at is made =
    let text : parts (bytes_of whole) ≡ (split.letter line ∷ []) ∷ map bytes_of (split.fields line) = is.text in
    let m = made.1.1 in
    let same : (split.letter line ∷ []) ∷ map bytes_of (split.fields line) ≡ (letter made.1.0 ∷ []) ∷ fields made.1.0 = ap₂ (λ l fs. (l ∷ []) ∷ fs) (sym m.same_letter) (sym m.same_fields) in (
      ap (λ ps. first_broken (line_checks years whole.spot ps)) text ∙ ap (λ s. first_broken (kind_checks s (map bytes_of (split.fields line)) (kind years (split.letter line)))) (sym at) ∙ made.0,
      (made.1.0, record { meaning = m.meaning; allowed = m.allowed; text = sym (join_with_byte-slice_split 59 (bytes_of whole)) ∙ ap (join_with_byte 59) (text ∙ same) }),
    )
made_says years whole line spot (Err fault) at is made =
    ap (λ ps. first_broken (line_checks years whole.spot ps)) is.text ∙ ap (λ s. first_broken (kind_checks s (map bytes_of (split.fields line)) (kind years (split.letter line)))) (sym at) ∙ made

-- ---- what a line that was read, or not, says of every command

pub every_command : (years : ℕ) (whole : Part) (result : Result code.Command Fault) → Says years whole result → (c : Command) → IsCommandText years (bytes_of whole) c → IsOkAnd result (λ command. Means command c)
every_command years whole (Ok command) said c is =
    let s = said.1.1 in
    subst (Means command) (one_command years (bytes_of whole) said.1.0 c s.allowed is.allowed s.text is.text) s.meaning
every_command years whole (Err fault) said c is =
    let none : first_broken (line_checks years whole.spot (parts (bytes_of whole))) ≡ None = line_unbroken years whole.spot (bytes_of whole) c is in
    let clash : Some fault ≡ None = sym said ∙ none in
    absurd (grind (arith, clash))

pub told_in_line : (years : ℕ) (whole : Part) (result : Result code.Command Fault) → Says years whole result → IfErr result (TellsLine whole.spot)
told_in_line years whole (Ok command) said = tt
told_in_line years whole (Err fault) said = command_told years whole.spot (bytes_of whole) fault said
