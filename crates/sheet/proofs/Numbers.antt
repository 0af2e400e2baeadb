-- A field is a number exactly if it is the decimal form of one below 10 ^ 11. Assumes nothing.
use Rattle.std.proofs.Common.{◌≡◌, ℕ, zero, suc, ◌-◌, ◌^◌, ◌<◌, ◌≤◌, List, [], ◌∷◌, length, get_or, take, true, false, sym, ap, ◌∙◌, arith, decimal, not-suc-le-zero, le_of_suc-le-suc, Option, Some, None, MatchOption, Result, Ok, Err, MatchResult, is_err}
use Rattle.std.proofs.lemmas.Bool.Decides.{nat_tests}
use Rattle.std.proofs.lemmas.Fmt.{decimal-digits_value, digits_decimal, digits_value-decimal, length-decimal-le, first_decimal, decimal_digit, decimal_nonempty}
use Rattle.std.proofs.lemmas.Str.Parse.{IsNumeralModel, numerals_by_value, tells_all_ascii_digits, digits_value_short}
use Rattle.std.proofs.lemmas.List.{length-take-le}
use Rattle.std.specs.Char.{is_ascii_digit, digit_value}
use Rattle.std.specs.Str.{all_ascii_digits}
use Rattle.std.specs.Str.Parse.{AllDigits, digits_value}
use Rattle.sheet.specs.Numerals.{is_number, Writes}

pub own : IsNumeralModel (λ ds. all_ascii_digits ds ≡ true) (digits_value 10)
own = numerals_by_value _ tells_all_ascii_digits

-- the parts of the test
pub record Plain (f : List ℕ) : Type 0 where
  pub some : 0 < length f
  pub few : length f ≤ 11
  pub digits : all_ascii_digits f ≡ true
  pub lead : get_or f 0 0 ≡ 48 → length f ≡ 1

pub plain_number : (f : List ℕ) → is_number f ≡ true → Plain f
unfolding is_number
plain_number f h = record { some = grind (arith, nat_tests); few = grind (arith, nat_tests); digits = grind (arith, nat_tests); lead = λ l. grind (arith, nat_tests) }

pub number_of_plain : (f : List ℕ) → Plain f → is_number f ≡ true
unfolding is_number
number_of_plain f p = let s = p.some in let w = p.few in let l = p.lead in let d = p.digits in grind (arith, nat_tests)

pub number_writes : (f : List ℕ) → is_number f ≡ true → Writes f (digits_value 10 f)
number_writes f h =
    let p = plain_number f h in
    let small : digits_value 10 f < 10 ^ 11 = digits_value_short own f 11 p.digits p.few in
    record { text = sym (decimal-digits_value own f p.digits p.some p.lead (omega arith)); most = small }

nought_alone : (n : ℕ) → n < 10 ^ 11 → get_or (decimal n) 0 0 ≡ 48 → length (decimal n) ≡ 1
nought_alone n small lead =
    let big : n < 2 ^ 64 = omega arith in
    let f : 0 < n → 48 < get_or (decimal n) 0 0 = λ some. first_decimal n some big in
    let none : n ≡ 0 = grind arith in
    ap length (decimal_digit n (omega arith))

pub decimal_is_number : (n : ℕ) → n < 10 ^ 11 → is_number (decimal n) ≡ true
decimal_is_number n small =
    let big : n < 2 ^ 64 = omega arith in
    number_of_plain (decimal n) (record { some = decimal_nonempty n big; few = length-decimal-le 11 n (omega arith) small big; digits = digits_decimal own n big; lead = nought_alone n small })

pub value_of_decimal : (n : ℕ) → n < 10 ^ 11 → digits_value 10 (decimal n) ≡ n
value_of_decimal n small = digits_value-decimal own n (omega arith)

-- the digits that a loop has read: their value is small, one more digit adds to it, and one byte that is none spoils them all
pub short_value : (bs : List ℕ) (i : ℕ) → length bs ≤ 11 → i < length bs → AllDigits 10 (take i bs) → digits_value 10 (take i bs) < 10 ^ 10
short_value bs i few inside digits = digits_value_short own (take i bs) 10 (own.from (take i bs) digits) (omega (arith, length-take-le i bs (omega arith)))

pub digit_is : (c : ℕ) → is_ascii_digit c ≡ true → (digit_value c ≡ c - 48) × (digit_value c < 10)
digit_is c digit = grind (arith, nat_tests)

one_digit : (bs : List ℕ) (i : ℕ) → i < length bs → all_ascii_digits bs ≡ true → is_ascii_digit (get_or bs i 0) ≡ true
one_digit [] i inside digits = absurd (not-suc-le-zero inside)
one_digit (c ∷ cs) zero inside digits = grind (arith, nat_tests)
one_digit (c ∷ cs) (suc i) inside digits = one_digit cs i (le_of_suc-le-suc inside) (grind (arith, nat_tests))

pub no_digits : (bs : List ℕ) (i : ℕ) → i < length bs → is_ascii_digit (get_or bs i 0) ≡ false → AllDigits 10 bs → ⊥
no_digits bs i inside none digits =
    let one = one_digit bs i inside (own.from bs digits) in
    grind arith

-- what bytes write a number, and what bytes write none
pub nothing_written : (bytes : List ℕ) (n : ℕ) → length bytes ≡ 0 → Writes bytes n → ⊥
nothing_written bytes n empty w =
    let m = w.most in
    let some : 0 < length (decimal n) = decimal_nonempty n (omega arith) in
    omega (arith, some, ap length w.text)

pub nought_written : (bytes : List ℕ) → length bytes ≡ 1 → get_or bytes 0 0 ≡ 48 → Writes bytes 0
nought_written [] one lead = grind arith
nought_written (c ∷ []) one lead = record { text = ap (λ x. x ∷ []) lead ∙ sym (decimal_digit 0 (omega arith)); most = omega arith }
nought_written (c ∷ (d ∷ ds)) one lead = grind arith

pub leading_nought : (bytes : List ℕ) (n : ℕ) → 2 ≤ length bytes → get_or bytes 0 0 ≡ 48 → Writes bytes n → ⊥
leading_nought bytes n more lead w =
    let one = nought_alone n w.most (ap (λ xs. get_or xs 0 0) (sym w.text) ∙ lead) in
    omega (arith, one, ap length w.text)

pub too_long : (bytes : List ℕ) (n : ℕ) → 11 < length bytes → Writes bytes n → ⊥
too_long bytes n long w =
    let m = w.most in
    omega (arith, length-decimal-le 11 n (omega arith) m (omega arith), ap length w.text)

pub no_digits_written : (bytes : List ℕ) (n : ℕ) → (AllDigits 10 bytes → ⊥) → Writes bytes n → ⊥
no_digits_written bytes n none w =
    let m = w.most in
    none (own.to bytes (ap all_ascii_digits w.text ∙ digits_decimal own n (omega arith)))

pub digits_written : (bytes : List ℕ) (n : ℕ) → AllDigits 10 bytes → 0 < length bytes → length bytes ≤ 11 → (get_or bytes 0 0 ≡ 48 → length bytes ≡ 1) → n ≡ digits_value 10 bytes → Writes bytes n
digits_written bytes n digits some few lead e =
    rw e (number_writes bytes (number_of_plain bytes (record { some = some; few = few; digits = own.from bytes digits; lead = lead })))

pub digits_decide : (bytes : List ℕ) (read : Option ℕ) → 0 < length bytes → length bytes ≤ 11 → (get_or bytes 0 0 ≡ 48 → length bytes ≡ 1) → MatchOption read (AllDigits 10 bytes → ⊥) (λ n. AllDigits 10 bytes × (n ≡ digits_value 10 bytes)) → MatchOption read ((n : ℕ) → Writes bytes n → ⊥) (λ n. Writes bytes n)
digits_decide bytes None some few lead h = λ n. no_digits_written bytes n h
digits_decide bytes (Some n) some few lead h = digits_written bytes n h.0 some few lead h.1

-- a number that is written passes the test, and where none is, the test fails
pub written_passes : (bytes : List ℕ) (n : ℕ) → Writes bytes n → (is_number bytes ≡ true) × (n ≡ digits_value 10 bytes)
written_passes bytes n w =
    let m = w.most in
    rw w.text (decimal_is_number n m, sym (value_of_decimal n m))

pub unwritten_fails : (bytes : List ℕ) → ((n : ℕ) → Writes bytes n → ⊥) → is_number bytes ≡ false
unwritten_fails bytes none =
    let some : is_number bytes ≡ true → ⊥ = λ h. none (digits_value 10 bytes) (number_writes bytes h) in
    grind arith

pub written_decides : {E : Type 0} (bytes : List ℕ) (read : Option ℕ) (told : Result ℕ E) → MatchOption read ((n : ℕ) → Writes bytes n → ⊥) (λ n. Writes bytes n) → MatchOption read (is_err told ≡ true) (λ n. told ≡ Ok n) → MatchResult told (λ n. (is_number bytes ≡ true) × (n ≡ digits_value 10 bytes)) (λ _. is_number bytes ≡ false)
written_decides bytes None (Ok n) h k = grind arith
written_decides bytes None (Err e) h k = unwritten_fails bytes h
written_decides bytes (Some n) (Ok m) h k = let e : m ≡ n = grind arith in rw e (written_passes bytes n h)
written_decides bytes (Some n) (Err e) h k = grind arith
