-- A line that keeps the rules breaks none, and makes its sheet of the sheet so far. Assumes nothing.
use Rattle.std.proofs.Common.{◌≡◌, ℕ, ◌+◌, ◌≤◌, true, false, List, [], ◌∷◌, ◌++◌, map, length, None, ◌==◌, decimal, suc, eq-eqb, refl, ap, ◌∙◌, arith}
use Rattle.std.specs.Str.Parse.{digits_value}
use Rattle.std.proofs.lemmas.Bool.Decides.{nat_tests}
use Rattle.std.proofs.lemmas.List.{append_assoc}
use Rattle.sheet.specs.Checks.{Check, Kind, Range, first_broken, number_checks, range_checks, kind_checks, line_checks, made_by, kind, in_range, ends_in_time}
use Rattle.sheet.specs.Lines.{first_line, after_line, parts, further}
use Rattle.sheet.specs.Reading.{with_line}
use Rattle.sheet.specs.declared.columns.Columns.{Columns}
use Rattle.sheet.specs.Sheets.{Sheet}
use Rattle.sheet.specs.Texts.{line_of, line_text}
use Rattle.sheet.specs.declared.spot.Spot.{Spot}
use Rattle.sheet.proofs.LineParts.{Few, line_free, first_line_of, after_line_of, parts_of, values_of, line_in_time}
use Rattle.sheet.proofs.Numbers.{decimal_is_number, value_of_decimal}

-- as many numbers as ranges, and each in its range
abbrev pub InRanges : List ℕ → List Range → Type 0
InRanges [] [] = Unit {0}
InRanges [] (r ∷ rs) = ⊥
InRanges (n ∷ ns) [] = ⊥
InRanges (n ∷ ns) (r ∷ rs) = ((r.low ≤ n) × (n ≤ r.high)) × InRanges ns rs

-- these numbers keep the rules of the kind
pub record KeepsKind (k : Kind) (numbers : List ℕ) : Type 0 where
  pub stands : k.may_stand ≡ true
  pub ranges : InRanges numbers k.ranges
  pub rules : first_broken (k.rules numbers) ≡ None

-- and their line is short
pub record Keeps (k : Kind) (numbers : List ℕ) : Type 0 where
  pub kept : KeepsKind k numbers
  pub most : length numbers ≤ 4
  pub few : Few numbers

numbers_kept : (spot : Spot) (numbers : List ℕ) (more : List Check) → Few numbers → first_broken more ≡ None → first_broken (number_checks spot (map decimal numbers) ++ more) ≡ None
numbers_kept spot [] more few kept = kept
numbers_kept spot (n ∷ ns) more few kept = rw (decimal_is_number n (omega (arith, few.0))) (numbers_kept (further spot (length (decimal n) + 1)) ns more few.1 kept)

ranges_kept : (spot : Spot) (numbers : List ℕ) (ranges : List Range) (more : List Check) → Few numbers → InRanges numbers ranges → first_broken more ≡ None → first_broken (range_checks spot (map decimal numbers) ranges ++ more) ≡ None
ranges_kept spot [] [] more few inside kept = kept
ranges_kept spot [] (r ∷ rs) more few inside kept = absurd inside
ranges_kept spot (n ∷ ns) [] more few inside kept = absurd inside
ranges_kept spot (n ∷ ns) (r ∷ rs) more few inside kept =
    let one : in_range r (digits_value 10 (decimal n)) ≡ true = ap (in_range r) (value_of_decimal n (omega (arith, few.0))) ∙ in_range_is r n inside.0 in
    rw one (ranges_kept (further spot (length (decimal n) + 1)) ns rs more few.1 inside.1 kept)
  where
    in_range_is : (r : Range) (n : ℕ) → (r.low ≤ n) × (n ≤ r.high) → in_range r n ≡ true
    in_range_is r n h = grind (arith, nat_tests)

same_count : (numbers : List ℕ) (ranges : List Range) → InRanges numbers ranges → length (map decimal numbers) ≡ length ranges
same_count [] [] inside = refl
same_count [] (r ∷ rs) inside = absurd inside
same_count (n ∷ ns) [] inside = absurd inside
same_count (n ∷ ns) (r ∷ rs) inside = ap suc (same_count ns rs inside.1)

kind_kept : (spot : Spot) (numbers : List ℕ) (k : Kind) → Keeps k numbers → first_broken (kind_checks spot (map decimal numbers) k) ≡ None
kind_kept spot numbers k keeps =
    let count : (length (map decimal numbers) == length k.ranges) ≡ true = eq-eqb _ _ (same_count numbers k.ranges keeps.kept.ranges) in
    let rules : first_broken (k.rules (map (digits_value 10) (map decimal numbers))) ≡ None = ap (λ ns. first_broken (k.rules ns)) (values_of numbers keeps.few) ∙ keeps.kept.rules in
    rw (keeps.kept.stands, count) (numbers_kept (further spot 2) numbers _ keeps.few (ranges_kept (further spot 2) numbers k.ranges _ keeps.few keeps.kept.ranges rules))

-- the text of a line, cut up
pub first_of_text : (letter : ℕ) (numbers tail : List ℕ) → (letter == 10) ≡ false → Few numbers → first_line (line_text letter numbers ++ tail) ≡ line_of letter numbers
first_of_text letter numbers tail feed few = ap first_line (append_assoc (line_of letter numbers) (10 ∷ []) tail) ∙ first_line_of (line_of letter numbers) tail (line_free letter numbers feed few)

pub after_text : (letter : ℕ) (numbers tail : List ℕ) → (letter == 10) ≡ false → Few numbers → after_line (line_text letter numbers ++ tail) ≡ tail
after_text letter numbers tail feed few = ap after_line (append_assoc (line_of letter numbers) (10 ∷ []) tail) ∙ after_line_of (line_of letter numbers) tail (line_free letter numbers feed few)

pub parts_of_text : (letter : ℕ) (numbers tail : List ℕ) → (letter == 10) ≡ false → (letter == 59) ≡ false → Few numbers → parts (first_line (line_text letter numbers ++ tail)) ≡ (letter ∷ []) ∷ map decimal numbers
parts_of_text letter numbers tail feed semicolon few = ap parts (first_of_text letter numbers tail feed few) ∙ parts_of letter numbers semicolon few

pub line_kept : (columns : Columns) (s : Sheet) (spot : Spot) (letter : ℕ) (numbers tail : List ℕ) → (letter == 10) ≡ false → (letter == 59) ≡ false → Keeps (kind columns s spot letter) numbers → first_broken (line_checks columns s spot (line_text letter numbers ++ tail)) ≡ None
line_kept columns s spot letter numbers tail feed semicolon keeps =
    let time : ends_in_time (line_text letter numbers ++ tail) ≡ true = ap ends_in_time (append_assoc (line_of letter numbers) (10 ∷ []) tail) ∙ line_in_time letter numbers tail keeps.few keeps.most in
    rw (time, parts_of_text letter numbers tail feed semicolon keeps.few) (kind_kept spot numbers (kind columns s spot letter) keeps)

pub line_makes : (columns : Columns) (s : Sheet) (spot : Spot) (letter : ℕ) (numbers tail : List ℕ) → (letter == 10) ≡ false → (letter == 59) ≡ false → Few numbers → with_line columns s spot (line_text letter numbers ++ tail) ≡ (kind columns s spot letter).makes numbers
line_makes columns s spot letter numbers tail feed semicolon few =
    ap (made_by columns s spot) (parts_of_text letter numbers tail feed semicolon few) ∙ ap (kind columns s spot letter).makes (values_of numbers few)
