-- The reserve: what a contract is expected to pay from now on, discounted, in whole ticks. Assumes nothing.
use Rattle.std.specs.Prelude.{ℕ, zero, suc, ◌+◌, ◌-◌, ℤ, pos, ◌+ℤ◌, ◌*ℤ◌}
use Rattle.units.specs.Sums.{int_sum_by}
use Rattle.basis.specs.Transitions.{Transitions, moves}
use Rattle.plan.specs.Payments.{Payments}
use Rattle.valuation.specs.Figures.{flow}
use Rattle.valuation.specs.Means.{rounded_mean, rounded_discount}

module _ (c : Transitions) (p : Payments) where
  -- E, the mean of what follows the moves out of state i in year t, where `next j` is the reserve of state j a year later
  abbrev pub expected : ℕ → ℕ → (ℕ → ℤ) → ℤ
  expected i t next = rounded_mean (int_sum_by (λ j. pos (c.share i j t) *ℤ (pos (p.move_benefit i j t) +ℤ next j)) (moves c))

  -- W, that mean discounted to the start of the year
  abbrev pub present : ℕ → ℕ → (ℕ → ℤ) → ℤ
  present i t next = rounded_discount (pos (c.factor t) *ℤ expected i t next)

  -- the reserve in state i and year t, of which k years are left
  abbrev pub reserve_with : ℕ → ℕ → ℕ → ℕ → ℤ
  reserve_with premium zero i t = flow c p premium i t
  reserve_with premium (suc k) i t = flow c p premium i t +ℤ present i t (λ j. reserve_with premium k j (t + 1))

  -- V(i, t)
  abbrev pub reserve : ℕ → ℕ → ℕ → ℤ
  reserve premium i t = reserve_with premium (c.years - t) i t

  -- E and W in state i and year t, from the reserves a year later
  abbrev pub expected_at : ℕ → ℕ → ℕ → ℤ
  expected_at premium i t = expected i t (λ j. reserve premium j (t + 1))

  abbrev pub present_at : ℕ → ℕ → ℕ → ℤ
  present_at premium i t = present i t (λ j. reserve premium j (t + 1))
