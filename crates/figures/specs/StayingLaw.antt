-- The basis in which everybody stays is lawful. Assumes nothing.
use Rattle.std.proofs.Common.{◌≡◌, ℕ, zero, suc, ◌<◌, ◌&&◌, ◌==◌, Bool, true, false, sum_by, cond, nat_lt, refl, arith}
use Rattle.std.specs.List.{range_with_len}
use Rattle.std.proofs.lemmas.Bool.Decides.{nat_tests}
use Rattle.units.specs.Ranges.{million}
use Rattle.basis.specs.Transitions.{Lawful}
use Rattle.figures.specs.Staying.{staying}

-- of the eight shares out of a state one is a million, and the others are nought
whole : (inside : Bool) (i : ℕ) → inside ≡ true → i < 8
    → sum_by (λ j. cond (inside && (nat_lt i 8 && i == j)) million 0) (range_with_len 0 8) ≡ million
whole false i is h = cc
whole true zero is h = refl
whole true (suc zero) is h = refl
whole true (suc (suc zero)) is h = refl
whole true (suc (suc (suc zero))) is h = refl
whole true (suc (suc (suc (suc zero)))) is h = refl
whole true (suc (suc (suc (suc (suc zero))))) is h = refl
whole true (suc (suc (suc (suc (suc (suc zero)))))) is h = refl
whole true (suc (suc (suc (suc (suc (suc (suc zero))))))) is h = refl
whole true (suc (suc (suc (suc (suc (suc (suc (suc i)))))))) is h = absurd (omega (arith, h))

pub staying_lawful : Lawful staying
staying_lawful = record {
  least_states = omega arith;
  most_states = omega arith;
  least_years = omega arith;
  most_years = omega arith;
  least_factor = λ t. omega arith;
  most_factor = λ t. omega arith;
  row = λ i t h k.
      let inside : nat_lt t 120 ≡ true = grind (arith, nat_tests) in
      whole (nat_lt t 120) i inside h;
  factor_after = λ t k. refl;
  share_after = λ i j t k. grind (arith, nat_tests);
  share_from_outside = λ i j t k. grind (arith, nat_tests);
  share_to_outside = λ i j t k. grind (arith, nat_tests);
}
