-- A basis some years on keeps the law. Assumes nothing.
use Rattle.std.proofs.Common.{◌∙◌, arith}
use Rattle.std.specs.Prelude.{ℕ, ◌+◌, ◌<◌}
use Rattle.std.proofs.lemmas.Bool.Decides.{nat_tests}
use Rattle.units.proofs.Sums.{sum_by_same}
use Rattle.basis.specs.Transitions.{Transitions, Lawful, moves}
use Rattle.basis.specs.Shifts.{later, first_year, shifted}

pub later_lawful : (c : Transitions) (first : ℕ) → first < c.years → Lawful c → Lawful (later c first)
later_lawful c first within law = record {
  least_states = law.least_states;
  most_states = law.most_states;
  least_years = omega arith;
  most_years = omega arith;
  least_factor = λ t. let h = law.least_factor (t + first) in grind (arith, nat_tests);
  most_factor = λ t. let h = law.most_factor (t + first) in grind (arith, nat_tests);
  row = λ i t h k. let inside : t + first < c.years = omega arith in
      sum_by_same (λ j. (later c first).share i j t) (λ j. c.share i j (t + first)) (moves c) (λ j. grind (arith, nat_tests)) ∙ law.row i (t + first) h inside;
  factor_after = λ t k. grind (arith, nat_tests);
  share_after = λ i j t k. grind (arith, nat_tests);
  share_from_outside = λ i j t k. let h = law.share_from_outside i j (t + first) k in grind (arith, nat_tests);
  share_to_outside = λ i j t k. let h = law.share_to_outside i j (t + first) k in grind (arith, nat_tests);
}

pub shifted_lawful : (c : Transitions) (by : ℕ) → Lawful c → Lawful (shifted c by)
shifted_lawful c by law =
    let some = law.least_years in
    let within : first_year c by < c.years = omega arith in
    later_lawful c (first_year c by) within law
