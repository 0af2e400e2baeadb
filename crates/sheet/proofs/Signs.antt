-- Numbers with a minus. Assumes nothing.
use Rattle.std.proofs.Common.{◌≡◌, ℕ, suc, ◌-◌, ◌^◌, ◌<◌, List, length, get_or, take, drop, ℤ, pos, negsuc, decimal, ap, sym, ◌∙◌, arith}
use Rattle.std.proofs.lemmas.Fmt.{digits_decimal, decimal_injective, decimal_nonempty}
use Rattle.std.proofs.lemmas.List.{take_all, length-drop}
use Rattle.std.proofs.lemmas.Str.Parse.{not_in_digits}
use Rattle.sheet.specs.Numerals.{Writes, WritesSigned}
use Rattle.sheet.proofs.Numbers.{own}

no_minus : (n : ℕ) → n < 10 ^ 11 → get_or (decimal n) 0 0 ≡ 45 → ⊥
no_minus n small minus = not_in_digits own (decimal n) 45 (digits_decimal own n (omega arith)) (λ digit. omega (arith, digit)) 0 (decimal_nonempty n (omega arith)) minus

-- behind a minus stands a number above nought, or none
pub none_behind : (bytes : List ℕ) → get_or bytes 0 0 ≡ 45 → ((n : ℕ) → Writes (drop 1 bytes) (suc n) → ⊥) → (z : ℤ) → WritesSigned bytes z → ⊥
none_behind bytes minus none (pos n) w = no_minus n w.most (ap (λ xs. get_or xs 0 0) (sym w.text) ∙ minus)
none_behind bytes minus none (negsuc n) w = none n (record { text = ap (drop 1) w.text; most = w.most })

rest_of : (bytes : List ℕ) → take (length bytes - 1) (drop 1 bytes) ≡ drop 1 bytes
rest_of bytes = take_all (length bytes - 1) (drop 1 bytes) (omega (arith, length-drop 1 bytes))

pub nothing_behind : (bytes : List ℕ) → get_or bytes 0 0 ≡ 45 → ((n : ℕ) → Writes (take (length bytes - 1) (drop 1 bytes)) n → ⊥) → (z : ℤ) → WritesSigned bytes z → ⊥
nothing_behind bytes minus none = none_behind bytes minus (λ n w. none (suc n) (rw (rest_of bytes) w))

pub nought_behind : (bytes : List ℕ) → get_or bytes 0 0 ≡ 45 → Writes (take (length bytes - 1) (drop 1 bytes)) 0 → (z : ℤ) → WritesSigned bytes z → ⊥
nought_behind bytes minus nought =
    none_behind bytes minus (λ n w.
    let m = w.most in
    let same : decimal 0 ≡ decimal (suc n) = sym nought.text ∙ rest_of bytes ∙ w.text in
    let zero = decimal_injective 0 (suc n) (omega arith) (omega arith) same in
    omega (arith, zero))
