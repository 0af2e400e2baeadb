-- What two places with a leading nought show of a number of hundredths. Assumes nothing.
use Rattle.std.proofs.Common.{◌≡◌, ℕ, ◌-◌, ◌<◌, ◌^◌, ◌/◌, ◌%◌, ◌++◌, ⊎_elim, false, [], arith}
use Rattle.std.specs.Fmt.{decimal, padded_integral, char_count, format_spec}
use Rattle.std.proofs.lemmas.Fmt.{decimal_digit, decimal_step}
use Rattle.std.proofs.lemmas.Bool.Decides.{leb_tells}

below_100 : (n : ℕ) → n < 100 → padded_integral (format_spec 32 0 4 2 (2 ^ 64 - 1)) false [] (decimal n) ≡ decimal (n / 10) ++ decimal (n % 10)
unfolding padded_integral char_count
below_100 n small = ⊎_elim
    (λ two. rw (decimal_step n two.1 (omega (arith, small)), decimal_digit (n / 10) (omega (arith, small)), decimal_digit (n % 10) (omega arith)))
    (λ one. let tens : n / 10 ≡ 0 = omega (arith, one.1) in let ones : n % 10 ≡ n = omega (arith, one.1) in rw (tens, ones, decimal_digit n one.1, decimal_digit 0 (omega arith)))
    (leb_tells 10 n)

pub two_places : (n : ℕ) → padded_integral (format_spec 32 0 4 2 (2 ^ 64 - 1)) false [] (decimal (n % 100)) ≡ decimal (n / 10 % 10) ++ decimal (n % 10)
two_places n =
    let tens : n / 10 % 10 ≡ n % 100 / 10 = omega arith in
    let ones : n % 10 ≡ n % 100 % 10 = omega arith in
    rw (tens, ones) (below_100 (n % 100) (omega arith))
