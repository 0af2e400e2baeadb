-- What the text of a line is cut into. Assumes nothing.
use Rattle.std.proofs.Common.{◌≡◌, ℕ, ◌+◌, ◌*◌, ◌^◌, ◌<◌, ◌≤◌, true, false, List, [], ◌∷◌, ◌++◌, map, length, take, drop, ◌==◌, decimal, flat_map, refl, sym, ap, ap₂, ◌∙◌, arith}
use Rattle.std.specs.Int.{IsInRange}
use Rattle.std.specs.List.{All, position_or_len}
use Rattle.std.specs.Str.Parse.{digits_value}
use Rattle.std.proofs.lemmas.Bool.Decides.{nat_tests}
use Rattle.std.proofs.lemmas.Fmt.{digits_decimal, length-decimal-le}
use Rattle.std.proofs.lemmas.List.{append-nil, append_assoc, length-append, take_at, drop_at, get_or_at, get_or_append_left, length-take, get_or-take}
use Rattle.std.proofs.lemmas.List.Elements.{All-nil, All-cons, All-append, All-from_get_or}
use Rattle.std.proofs.lemmas.List.Folds.{list_any_at}
use Rattle.std.proofs.lemmas.List.Splits.{slice_split_at, slice_split_none}
use Rattle.std.proofs.lemmas.List.Sums.{position_or_len_is}
use Rattle.std.proofs.lemmas.Str.Parse.{not_in_digits}
use Rattle.units.specs.Ranges.{million}
use Rattle.sheet.specs.Checks.{ends_in_time}
use Rattle.sheet.specs.Lines.{is_line_feed, first_line, after_line, parts}
use Rattle.sheet.specs.Texts.{line_of}
use Rattle.sheet.proofs.Numbers.{own, value_of_decimal}

-- no number is above the million
abbrev pub Few : List ℕ → Type 0
Few [] = Unit {0}
Few (n ∷ ns) = (n ≤ million) × Few ns

-- no byte is c
abbrev pub Free : ℕ → List ℕ → Type 0
Free c bytes = All (λ b. (b == c) ≡ false) bytes

pub decimal_free : (c n : ℕ) → (IsInRange 48 57 c → ⊥) → n < 10 ^ 11 → Free c (decimal n)
decimal_free c n other small =
    All-from_get_or (λ b. (b == c) ≡ false) (decimal n) 0 (λ i inside.
    let apart = not_in_digits own (decimal n) c (digits_decimal own n (omega arith)) other i inside in
    grind (arith, nat_tests))

numbers_free : (numbers : List ℕ) → Few numbers → Free 10 (flat_map (λ n. 59 ∷ decimal n) numbers)
numbers_free [] few = All-nil (λ b. (b == 10) ≡ false)
numbers_free (n ∷ ns) few =
    All-append (λ b. (b == 10) ≡ false) (59 ∷ decimal n) _ (All-cons (λ b. (b == 10) ≡ false) 59 (decimal n) refl (decimal_free 10 n (λ h. omega arith) (omega (arith, few.0)))) (numbers_free ns few.1)

-- a line has no line feed
pub line_free : (letter : ℕ) (numbers : List ℕ) → (letter == 10) ≡ false → Few numbers → Free 10 (line_of letter numbers)
line_free letter numbers other few = All-cons (λ b. (b == 10) ≡ false) letter _ other (numbers_free numbers few)

position_of : (line tail : List ℕ) → Free 10 line → position_or_len is_line_feed (line ++ 10 ∷ tail) ≡ length line
position_of line tail free =
    position_or_len_is is_line_feed (line ++ 10 ∷ tail) (length line) 0 (omega (arith, length-append line (10 ∷ tail)))
    (λ k below. ap is_line_feed (get_or_append_left line (10 ∷ tail) 0 k below) ∙ free k 0 below)
    (λ inside. ap is_line_feed (get_or_at line 10 tail 0 (length line) refl))

-- the first line of some bytes, and what comes after it
pub first_line_of : (line tail : List ℕ) → Free 10 line → first_line (line ++ 10 ∷ tail) ≡ line
first_line_of line tail free = ap (λ k. take k (line ++ 10 ∷ tail)) (position_of line tail free) ∙ take_at line (10 ∷ tail) (length line) refl

pub after_line_of : (line tail : List ℕ) → Free 10 line → after_line (line ++ 10 ∷ tail) ≡ tail
after_line_of line tail free =
    ap (λ k. drop (k + 1) (line ++ 10 ∷ tail)) (position_of line tail free)
    ∙ ap (drop (length line + 1)) (sym (append_assoc line (10 ∷ []) tail))
    ∙ drop_at (line ++ 10 ∷ []) tail (length line + 1) (length-append line (10 ∷ []))

-- a part, and one for each number behind it
parts_behind : (front numbers : List ℕ) → Free 59 front → Few numbers → parts (front ++ flat_map (λ n. 59 ∷ decimal n) numbers) ≡ front ∷ map decimal numbers
parts_behind front [] free few = ap parts (append-nil front) ∙ slice_split_none (λ b. b == 59) front free
parts_behind front (n ∷ ns) free few =
    slice_split_at (λ b. b == 59) front 59 (decimal n ++ flat_map (λ n. 59 ∷ decimal n) ns) free refl
    ∙ ap (λ ps. front ∷ ps) (parts_behind (decimal n) ns (decimal_free 59 n (λ h. omega arith) (omega (arith, few.0))) few.1)

-- the parts of a line are its letter and its numbers in decimal
pub parts_of : (letter : ℕ) (numbers : List ℕ) → (letter == 59) ≡ false → Few numbers → parts (line_of letter numbers) ≡ (letter ∷ []) ∷ map decimal numbers
parts_of letter numbers other few = parts_behind (letter ∷ []) numbers (All-cons (λ b. (b == 59) ≡ false) letter [] other (All-nil (λ b. (b == 59) ≡ false))) few

pub values_of : (numbers : List ℕ) → Few numbers → map (digits_value 10) (map decimal numbers) ≡ numbers
values_of [] few = refl
values_of (n ∷ ns) few = ap₂ ◌∷◌ (value_of_decimal n (omega (arith, few.0))) (values_of ns few.1)

numbers_short : (numbers : List ℕ) → Few numbers → length (flat_map (λ n. 59 ∷ decimal n) numbers) ≤ 8 * length numbers
numbers_short [] few = omega arith
numbers_short (n ∷ ns) few =
    let digits : length (decimal n) ≤ 7 = length-decimal-le 7 n (omega arith) (omega (arith, few.0)) (omega (arith, few.0)) in
    omega (arith, numbers_short ns few.1, length-append (decimal n) (flat_map (λ n. 59 ∷ decimal n) ns))

-- a line of at most four numbers ends within 40 bytes
pub line_in_time : (letter : ℕ) (numbers tail : List ℕ) → Few numbers → length numbers ≤ 4 → ends_in_time (line_of letter numbers ++ 10 ∷ tail) ≡ true
line_in_time letter numbers tail few most =
    let line = line_of letter numbers in
    let short : length line < 40 = omega (arith, numbers_short numbers few) in
    let long : length line < length (line ++ 10 ∷ tail) = omega (arith, length-append line (10 ∷ tail)) in
    let inside : length line < length (take 40 (line ++ 10 ∷ tail)) = omega (arith, length-take 40 (line ++ 10 ∷ tail)) in
    list_any_at is_line_feed (take 40 (line ++ 10 ∷ tail)) (length line) 0 inside (ap is_line_feed (get_or-take 40 (line ++ 10 ∷ tail) (length line) 0 short ∙ get_or_at line 10 tail 0 (length line) refl))
