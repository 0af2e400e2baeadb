-- A field has the form of a signed number exactly if it writes one. Assumes nothing.
use Rattle.std.proofs.Common.{◌≡◌, ℕ, suc, ◌-◌, ◌^◌, ◌<◌, Bool, true, false, cond, not, ◌&&◌, ◌==◌, subst, List, [], ◌∷◌, length, get_or, ℤ, pos, negsuc, decimal, refl, ap, ◌∙◌, arith}
use Rattle.std.specs.Str.Parse.{digits_value}
use Rattle.std.proofs.lemmas.Bool.Decides.{nat_tests}
use Rattle.std.proofs.lemmas.Fmt.{digits_decimal, decimal_nonempty}
use Rattle.std.proofs.lemmas.Str.Parse.{not_in_digits}
use Rattle.sheet.specs.Numerals.{is_number, WritesSigned}
use Rattle.sheet.proofs.Numbers.{own, number_writes, decimal_is_number, value_of_decimal}
use Rattle.desk.specs.CommandChecks.{is_signed}

no_minus : (n : ℕ) → n < 10 ^ 11 → get_or (decimal n) 0 0 ≡ 45 → ⊥
no_minus n small minus = not_in_digits own (decimal n) 45 (digits_decimal own n (omega arith)) (λ digit. omega (arith, digit)) 0 (decimal_nonempty n (omega arith)) minus

plain : (bytes : List ℕ) → (get_or bytes 0 0 ≡ 45 → ⊥) → is_number bytes ≡ true → 0 < length bytes → is_signed bytes ≡ true
plain [] other number some = absurd (omega arith)
plain (c ∷ cs) other number some = grind (arith, nat_tests)

behind : (cs : List ℕ) (n : ℕ) → is_number cs ≡ true → digits_value 10 cs ≡ suc n → is_signed (45 ∷ cs) ≡ true
behind cs n number value = grind (arith, nat_tests)

pub signed_passes : (bytes : List ℕ) (z : ℤ) → WritesSigned bytes z → is_signed bytes ≡ true
signed_passes bytes (pos n) w =
    let m : n < 10 ^ 11 = w.most in
    let e : bytes ≡ decimal n = w.text in
    rw e (plain (decimal n) (no_minus n m) (decimal_is_number n m) (decimal_nonempty n (omega arith)))
signed_passes bytes (negsuc n) w =
    let m : suc n < 10 ^ 11 = w.most in
    let e : bytes ≡ 45 ∷ decimal (suc n) = w.text in
    rw e (behind (decimal (suc n)) n (decimal_is_number (suc n) m) (value_of_decimal (suc n) m))

minus_writes : (cs : List ℕ) (n : ℕ) → is_number cs ≡ true → digits_value 10 cs ≡ suc n → WritesSigned (45 ∷ cs) (negsuc n)
minus_writes cs n number value =
    let w = number_writes cs number in
    let t : cs ≡ decimal (suc n) = w.text ∙ ap decimal value in
    let m = w.most in
    record { text = ap (λ x. 45 ∷ x) t; most = omega (arith, m, value) }

plain_writes : (bytes : List ℕ) → is_number bytes ≡ true → WritesSigned bytes (pos (digits_value 10 bytes))
plain_writes bytes number = let w = number_writes bytes number in record { text = w.text; most = w.most }

minus_side : (cs : List ℕ) → (is_number cs && not (digits_value 10 cs == 0)) ≡ true → WritesSigned (45 ∷ cs) (negsuc (digits_value 10 cs - 1))
minus_side cs h =
    let number : is_number cs ≡ true = grind (arith, nat_tests) in
    let value : digits_value 10 cs ≡ suc (digits_value 10 cs - 1) = grind (arith, nat_tests) in
    minus_writes cs (digits_value 10 cs - 1) number value

unsigned_at : (c : ℕ) (cs : List ℕ) → ((z : ℤ) → WritesSigned (c ∷ cs) z → ⊥) → is_signed (c ∷ cs) ≡ true → ⊥
unsigned_at c cs none signed = on (c == 45) refl signed
  where
    on : (b : Bool) → (c == 45) ≡ b → cond b (is_number cs && not (digits_value 10 cs == 0)) (is_number (c ∷ cs)) ≡ true → ⊥
    on true minus h =
        let e : 45 ≡ c = grind (arith, nat_tests) in
        none (negsuc (digits_value 10 cs - 1)) (subst (λ x. WritesSigned (x ∷ cs) (negsuc (digits_value 10 cs - 1))) e (minus_side cs h))
    on false minus h = none (pos (digits_value 10 (c ∷ cs))) (plain_writes (c ∷ cs) h)

pub unsigned_fails : (bytes : List ℕ) → ((z : ℤ) → WritesSigned bytes z → ⊥) → is_signed bytes ≡ false
unsigned_fails [] none = refl
unsigned_fails (c ∷ cs) none = let no = unsigned_at c cs none in grind arith
