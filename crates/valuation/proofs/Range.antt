-- No reserve of a lawful basis and a plan in range leaves ±5 · 10^12 ticks. Assumes nothing.
use Rattle.std.proofs.Common.{ℕ, zero, suc, ◌+◌, ◌-◌, ◌*◌, ◌<◌, ◌≤◌, ℤ, pos, ◌+ℤ◌, sum_by, ⊎_elim, mul-le-mul_right, arith}
use borrow.Author.Differences.{ints}
use Rattle.std.proofs.lemmas.Bool.Decides.{leb_tells}
use Rattle.units.specs.Near.{Within}
use Rattle.units.specs.Ranges.{million, limit}
use Rattle.units.proofs.Distances.{within_pos, within_more, within_add, within_times}
use Rattle.units.proofs.Sums.{sum_by_none, int_sum_by_within}
use Rattle.basis.specs.Transitions.{Transitions, Lawful, moves}
use Rattle.plan.specs.Payments.{Payments, InRange}
use Rattle.valuation.specs.Figures.{flow}
use Rattle.valuation.specs.Reserves.{expected, present, reserve_with}
use Rattle.valuation.proofs.Rounded.{rounded_mean_within, rounded_discount_within}

-- how far a reserve can go, with k years left
abbrev pub reach : ℕ → ℕ
reach k = limit + 2 * limit * k

module _ (c : Transitions) (law : Lawful c) (p : Payments) (range : InRange p) where
  pub shares_most : (i t : ℕ) → t < c.years → sum_by (λ j. c.share i j t) (moves c) ≤ million
  shares_most i t early =
      ⊎_elim
      (λ outside. omega (arith, sum_by_none (λ j. c.share i j t) (moves c) (λ j. law.share_from_outside i j t outside.1)))
      (λ inside. omega (arith, law.row i t inside.1 early))
      (leb_tells c.states i)

  pub expected_within : (i t d : ℕ) (next : ℕ → ℤ) → t < c.years → ((j : ℕ) → Within d (next j)) → Within (limit + d) (expected c p i t next)
  expected_within i t d next early each =
      let follows : (j : ℕ) → j < c.states → Within (limit + d) (pos (p.move_benefit i j t) +ℤ next j) = λ j inside. within_add (within_pos limit (p.move_benefit i j t) (range.most_move_benefit i j t)) (each j) in
      let sum = int_sum_by_within (λ j. c.share i j t) (λ j. pos (p.move_benefit i j t) +ℤ next j) (limit + d) c.states follows 0 c.states (omega arith) in
      rounded_mean_within (limit + d) _ (within_more (mul-le-mul_right (limit + d) (shares_most i t early)) sum)

  pub present_within : (i t d : ℕ) (next : ℕ → ℤ) → t < c.years → ((j : ℕ) → Within d (next j)) → Within (limit + d) (present c p i t next)
  present_within i t d next early each =
      rounded_discount_within (limit + d) _ (within_more (mul-le-mul_right (limit + d) (law.most_factor t)) (within_times (c.factor t) (expected_within i t d next early each)))

  module _ (premium : ℕ) (most : premium ≤ limit) where
    pub flow_within : (i t : ℕ) → Within limit (flow c p premium i t)
    flow_within i t =
        let paid = range.most_benefit i t in
        record { low = grind (arith, ints); high = grind (arith, ints) }

    pub reserve_within : (k i t : ℕ) → k ≤ c.years - t → Within (reach k) (reserve_with c p premium k i t)
    reserve_within zero i t l = within_more (omega arith) (flow_within i t)
    reserve_within (suc k) i t l =
        within_more (omega arith) (within_add (flow_within i t) (present_within i t (reach k) (λ j. reserve_with c p premium k j (t + 1)) (omega arith) (λ j. reserve_within k j (t + 1) (omega arith))))
