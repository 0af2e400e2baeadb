-- Every reserve is within a tick for each year left of the exact value. Assumes nothing.
use Rattle.std.proofs.Common.{◌≡◌, ℕ, zero, suc, ◌+◌, ◌-◌, ◌*◌, ◌<◌, ◌≤◌, ℤ, pos, ◌+ℤ◌, ◌*ℤ◌, sym, ap, ◌∙◌, add-zero, suc-mul, mul_left_comm, mul-le-mul_right, arith}
use Rattle.std.proofs.Math.Nat.{pow-succ'}
use borrow.Author.Differences.{ints}
use Rattle.units.specs.Near.{Near}
use Rattle.units.specs.Ranges.{million}
use Rattle.units.specs.Sums.{int_sum_by}
use Rattle.units.proofs.Distances.{near_same, near_more, near_trans, near_onto, near_times}
use Rattle.units.proofs.Sums.{int_sum_by_same, int_sum_by_times, int_sum_by_near}
use Rattle.units.proofs.Whole.{times_add, times_times, times_swap}
use Rattle.basis.specs.Transitions.{Transitions, Lawful, moves}
use Rattle.plan.specs.Payments.{Payments}
use Rattle.valuation.specs.Exact.{scale, exact_with, NearExactWith, NearExact}
use Rattle.valuation.specs.Figures.{flow}
use Rattle.valuation.specs.Means.{rounded_mean, rounded_discount}
use Rattle.valuation.specs.Reserves.{present, reserve_with, reserve}
use Rattle.valuation.proofs.Exact.{exact_earlier}
use Rattle.valuation.proofs.Rounded.{rounded_mean_near, rounded_discount_near}

-- one year adds at most a tick: half a tick by each of its two roundings. In `parts`, those of the year after, e is the mean before it
-- is rounded, and `exact` what it stands for
module _ (parts factor k : ℕ) (e exact : ℤ) (small : factor ≤ million) (near : Near (million * (k * parts)) (pos parts *ℤ e) exact) where
  mean_near : Near (factor * (parts * 500000 + million * (k * parts))) (pos factor *ℤ (pos parts *ℤ (pos million *ℤ rounded_mean e))) (pos factor *ℤ exact)
  mean_near = near_times factor (near_trans (near_times parts (rounded_mean_near e)) near)

  discount_near : Near (parts * million * 500000) (pos (parts * million) *ℤ (pos million *ℤ rounded_discount (pos factor *ℤ rounded_mean e))) (pos (parts * million) *ℤ (pos factor *ℤ rounded_mean e))
  discount_near = near_times (parts * million) (rounded_discount_near (pos factor *ℤ rounded_mean e))

  joint : pos (parts * million) *ℤ (pos factor *ℤ rounded_mean e) ≡ pos factor *ℤ (pos parts *ℤ (pos million *ℤ rounded_mean e))
  joint = times_swap (parts * million) factor (rounded_mean e) ∙ ap (λ z. pos factor *ℤ z) (sym (times_times parts million (rounded_mean e)))

  scaled : pos (parts * million) *ℤ (pos million *ℤ rounded_discount (pos factor *ℤ rounded_mean e)) ≡ pos (1000000000000 * parts) *ℤ rounded_discount (pos factor *ℤ rounded_mean e)
  scaled = times_times (parts * million) million (rounded_discount (pos factor *ℤ rounded_mean e)) ∙ ap (λ (n : ℕ). pos n *ℤ rounded_discount (pos factor *ℤ rounded_mean e)) (omega arith)

  year_near : Near (1000000000000 * parts + 1000000000000 * (k * parts)) (pos (1000000000000 * parts) *ℤ rounded_discount (pos factor *ℤ rounded_mean e)) (pos factor *ℤ exact)
  year_near = near_more (omega (arith, mul-le-mul_right (parts * 500000 + million * (k * parts)) small)) (near_trans (rw (joint, scaled) at discount_near) mean_near)

module _ (c : Transitions) (law : Lawful c) (p : Payments) (premium : ℕ) where
  -- the mean before it is rounded
  follows_near : (k i t : ℕ) → i < c.states → t < c.years → ((j : ℕ) → j < c.states → NearExactWith c p premium k j (t + 1) (reserve_with c p premium k j (t + 1))) → Near (million * (k * scale k)) (pos (scale k) *ℤ int_sum_by (λ j. pos (c.share i j t) *ℤ (pos (p.move_benefit i j t) +ℤ reserve_with c p premium k j (t + 1))) (moves c)) (int_sum_by (λ j. pos (c.share i j t) *ℤ (pos (scale k) *ℤ pos (p.move_benefit i j t) +ℤ exact_with c p premium k j (t + 1))) (moves c))
  follows_near k i t inside early each =
      let share : ℕ → ℕ = λ j. c.share i j t in
      let benefit : ℕ → ℤ = λ j. pos (p.move_benefit i j t) in
      let next : ℕ → ℤ = λ j. benefit j +ℤ reserve_with c p premium k j (t + 1) in
      let row = int_sum_by_near share (λ j. pos (scale k) *ℤ next j) (λ j. pos (scale k) *ℤ benefit j +ℤ exact_with c p premium k j (t + 1)) (k * scale k) c.states (λ j below. rw (times_add (scale k) (benefit j) (reserve_with c p premium k j (t + 1))) (near_onto (pos (scale k) *ℤ benefit j) (each j below))) 0 c.states (omega arith) in
      let out : int_sum_by (λ j. pos (share j) *ℤ (pos (scale k) *ℤ next j)) (moves c) ≡ pos (scale k) *ℤ int_sum_by (λ j. pos (share j) *ℤ next j) (moves c) =
      int_sum_by_same (λ j. pos (share j) *ℤ (pos (scale k) *ℤ next j)) (λ j. pos (scale k) *ℤ (pos (share j) *ℤ next j)) (moves c) (λ j. times_swap (share j) (scale k) (next j))
      ∙ int_sum_by_times (scale k) (λ j. pos (share j) *ℤ next j) (moves c) in
      rw (law.row i t inside early, out) at row

  reserve_with_near : (k i t : ℕ) → i < c.states → t + k ≤ c.years → NearExactWith c p premium k i t (reserve_with c p premium k i t)
  reserve_with_near zero i t inside early = near_more (omega arith) (near_same (omega (arith, ints, ap (flow c p premium i) (add-zero t))))
  reserve_with_near (suc k) i t inside early =
      let paid : ℤ = flow c p premium i t in
      let next : ℕ → ℤ = λ j. reserve_with c p premium k j (t + 1) in
      let ahead : ℤ = present c p i t next in
      let unrounded : ℤ = int_sum_by (λ j. pos (c.share i j t) *ℤ (pos (p.move_benefit i j t) +ℤ next j)) (moves c) in
      let exact_mean : ℤ = int_sum_by (λ j. pos (c.share i j t) *ℤ (pos (scale k) *ℤ pos (p.move_benefit i j t) +ℤ exact_with c p premium k j (t + 1))) (moves c) in
      let follows = follows_near k i t inside (omega arith) (λ j below. reserve_with_near k j (t + 1) below (omega arith)) in
      let one : Near (1000000000000 * scale k + 1000000000000 * (k * scale k)) (pos (1000000000000 * scale k) *ℤ ahead) (pos (c.factor t) *ℤ exact_mean) = year_near (scale k) (c.factor t) k unrounded exact_mean (law.most_factor t) follows in
      let size : 1000000000000 * scale k + 1000000000000 * (k * scale k) ≡ suc k * (1000000000000 * scale k) = omega (arith, suc-mul k (1000000000000 * scale k), mul_left_comm k 1000000000000 (scale k)) in
      rw (exact_earlier c law p premium k i t inside early, pow-succ' 1000000000000 k, times_add (1000000000000 * scale k) paid ahead) (near_onto (pos (1000000000000 * scale k) *ℤ paid) (rw size at one))

  pub reserve_near : (i t : ℕ) → i < c.states → t ≤ c.years → NearExact c p premium i t (reserve c p premium i t)
  reserve_near i t inside early = reserve_with_near (c.years - t) i t inside (omega arith)
