-- The span encloses the reserve. Assumes nothing.
use Rattle.std.proofs.Common.{◌≡◌, ℕ, zero, suc, ◌+◌, ◌-◌, ◌<◌, ◌≤◌, Bool, true, false, cond, nat_lt, List, [], ◌∷◌, map, ℤ, pos, ◌+ℤ◌, ◌*ℤ◌, ◌≤ℤ◌, refl, sym, ap, ◌∙◌, subst, ⊎_elim, arith}
use borrow.Author.Differences.{ints}
use Rattle.std.specs.List.{AllByRecursion, filter}
use Rattle.std.proofs.lemmas.Bool.Decides.{leb_tells, nat_tests}
use Rattle.units.specs.Ranges.{million}
use Rattle.units.specs.Sums.{int_sum_by}
use Rattle.units.proofs.Sums.{int_sum_by_weights}
use Rattle.units.proofs.Whole.{times_le}
use Rattle.basis.specs.Transitions.{Transitions, Lawful, moves}
use Rattle.plan.specs.Payments.{Payments}
use Rattle.valuation.specs.Extremes.{smallest, largest}
use Rattle.valuation.specs.Figures.{flow}
use Rattle.valuation.specs.Means.{rounded_mean, rounded_discount}
use Rattle.valuation.specs.Orders.{rounded_mean_keeps, rounded_discount_keeps}
use Rattle.valuation.specs.Reserves.{reserve_with}
use Rattle.valuation.specs.Spans.{follows, end_with, ends, Encloses}
use Rattle.valuation.proofs.Extremes.{smallest_each, largest_each}
use Rattle.valuation.proofs.Rounded.{rounded_mean_whole}

-- an order that sums, products and rounding keep, in which `pick` takes what is no further on than any
record Direction (before : ℤ → ℤ → Type 0) (pick : List ℤ → ℤ) : Type 0 where
  same : (a : ℤ) → before a a
  trans : (a b z : ℤ) → before a b → before b z → before a z
  add : (a b x y : ℤ) → before a b → before x y → before (a +ℤ x) (b +ℤ y)
  times : (n : ℕ) (a b : ℤ) → before a b → before (pos n *ℤ a) (pos n *ℤ b)
  mean : (a b : ℤ) → before a b → before (rounded_mean a) (rounded_mean b)
  discount : (a b : ℤ) → before a b → before (rounded_discount a) (rounded_discount b)
  each : (xs : List ℤ) → AllByRecursion (before (pick xs)) xs
  none : pick [] ≡ pos 0

upwards : Direction ◌≤ℤ◌ smallest
upwards = record {
  same = λ a. omega (arith, ints);
  trans = λ a b z h k. omega (arith, ints, h, k);
  add = λ a b x y h k. omega (arith, ints, h, k);
  times = times_le;
  mean = rounded_mean_keeps;
  discount = rounded_discount_keeps;
  each = smallest_each;
  none = refl;
}

downwards : Direction (λ a b. b ≤ℤ a) largest
downwards = record {
  same = λ a. omega (arith, ints);
  trans = λ a b z h k. omega (arith, ints, h, k);
  add = λ a b x y h k. omega (arith, ints, h, k);
  times = λ n a b. times_le n b a;
  mean = λ a b. rounded_mean_keeps b a;
  discount = λ a b. rounded_discount_keeps b a;
  each = largest_each;
  none = refl;
}

module _ (before : ℤ → ℤ → Type 0) (pick : List ℤ → ℤ) (way : Direction before pick) where
  -- a move without a share weighs nothing
  one_before : (n : ℕ) (s x : ℤ) (xs : List ℤ) → AllByRecursion (before s) (cond (nat_lt 0 n) (x ∷ xs) xs) → before (pos n *ℤ s) (pos n *ℤ x)
  one_before zero s x xs all = let nought : pos 0 *ℤ s ≡ pos 0 *ℤ x = omega (arith, ints) in subst (before (pos 0 *ℤ s)) nought (way.same (pos 0 *ℤ s))
  one_before (suc n) s x xs all =
      let some : nat_lt 0 (suc n) ≡ true = grind (arith, nat_tests) in
      let counted : AllByRecursion (before s) (x ∷ xs) = subst (λ b. AllByRecursion (before s) (cond b (x ∷ xs) xs)) some all in
      way.times (suc n) s x counted.0

  rest_before : (b : Bool) (s x : ℤ) (xs : List ℤ) → AllByRecursion (before s) (cond b (x ∷ xs) xs) → AllByRecursion (before s) xs
  rest_before true s x xs all = all.1
  rest_before false s x xs all = all

  mapped : (f : ℕ → ℤ) (b : Bool) (j : ℕ) (js : List ℕ) → map f (cond b (j ∷ js) js) ≡ cond b (f j ∷ map f js) (map f js)
  mapped f true j js = refl
  mapped f false j js = refl

  weighted_before : (share : ℕ → ℕ) (f : ℕ → ℤ) (s : ℤ) (js : List ℕ) → AllByRecursion (before s) (map f (filter (λ j. nat_lt 0 (share j)) js)) → before (int_sum_by (λ j. pos (share j) *ℤ s) js) (int_sum_by (λ j. pos (share j) *ℤ f j) js)
  weighted_before share f s [] all = way.same (pos 0)
  weighted_before share f s (j ∷ js) all =
      let split = subst (AllByRecursion (before s)) (mapped f (nat_lt 0 (share j)) j (filter (λ j. nat_lt 0 (share j)) js)) all in
      way.add (pos (share j) *ℤ s) (pos (share j) *ℤ f j) (int_sum_by (λ j. pos (share j) *ℤ s) js) (int_sum_by (λ j. pos (share j) *ℤ f j) js)
      (one_before (share j) s (f j) (map f (filter (λ j. nat_lt 0 (share j)) js)) split)
      (weighted_before share f s js (rest_before (nat_lt 0 (share j)) s (f j) (map f (filter (λ j. nat_lt 0 (share j)) js)) split))

  sum_before : (f g : ℕ → ℤ) (js : List ℕ) → ((j : ℕ) → before (f j) (g j)) → before (int_sum_by f js) (int_sum_by g js)
  sum_before f g [] each = way.same (pos 0)
  sum_before f g (j ∷ js) each = way.add (f j) (g j) (int_sum_by f js) (int_sum_by g js) (each j) (sum_before f g js each)

  module _ (c : Transitions) (law : Lawful c) (p : Payments) (premium : ℕ) where
    -- what is picked is before the mean: where the state is of the basis, since its row is a whole; outside, both are nought
    picked_before : (i t : ℕ) (next : ℕ → ℤ) → t < c.years → before (pick (follows c p i t next)) (rounded_mean (int_sum_by (λ j. pos (c.share i j t) *ℤ (pos (p.move_benefit i j t) +ℤ next j)) (moves c)))
    picked_before i t next early =
        let share : ℕ → ℕ = λ j. c.share i j t in
        let paid : ℕ → ℤ = λ j. pos (p.move_benefit i j t) +ℤ next j in
        let s : ℤ = pick (follows c p i t next) in
        let below = weighted_before share paid s (moves c) (way.each (follows c p i t next)) in
        ⊎_elim
        (λ outside.
        let none : (j : ℕ) → share j ≡ 0 = λ j. law.share_from_outside i j t outside.1 in
        let empty : follows c p i t next ≡ [] = ap (map paid) (no_moves share none (moves c)) in
        let nought : s ≡ pos 0 = ap pick empty ∙ way.none in
        let zero_sum : int_sum_by (λ j. pos (share j) *ℤ paid j) (moves c) ≡ pos million *ℤ pos 0 = no_sum share none paid (moves c) in
        subst (λ z. before s z) (sym (ap rounded_mean zero_sum ∙ rounded_mean_whole (pos 0))) (subst (λ z. before s z) nought (way.same s)))
        (λ inside.
        let whole : int_sum_by (λ j. pos (share j) *ℤ s) (moves c) ≡ pos million *ℤ s = int_sum_by_weights share s (moves c) ∙ ap (λ (n : ℕ). pos n *ℤ s) (law.row i t inside.1 early) in
        subst (λ z. before z (rounded_mean (int_sum_by (λ j. pos (share j) *ℤ paid j) (moves c)))) (ap rounded_mean whole ∙ rounded_mean_whole s) (way.mean _ _ below))
        (leb_tells c.states i)
      where
        no_moves : (share : ℕ → ℕ) → ((j : ℕ) → share j ≡ 0) → (js : List ℕ) → filter (λ j. nat_lt 0 (share j)) js ≡ []
        no_moves share none [] = refl
        no_moves share none (j ∷ js) = rw (none j) (no_moves share none js)

        no_sum : (share : ℕ → ℕ) → ((j : ℕ) → share j ≡ 0) → (f : ℕ → ℤ) (js : List ℕ) → int_sum_by (λ j. pos (share j) *ℤ f j) js ≡ pos million *ℤ pos 0
        no_sum share none f [] = omega (arith, ints)
        no_sum share none f (j ∷ js) = rw (none j) (omega (arith, ints, no_sum share none f js))

    end_before : (k i t : ℕ) → k ≤ c.years - t → before (end_with c p pick premium k i t) (reserve_with c p premium k i t)
    end_before zero i t l = way.same _
    end_before (suc k) i t l =
        let nearer : ℕ → ℤ = λ j. end_with c p pick premium k j (t + 1) in
        let further : ℕ → ℤ = λ j. reserve_with c p premium k j (t + 1) in
        let share : ℕ → ℕ = λ j. c.share i j t in
        let benefit : ℕ → ℤ = λ j. pos (p.move_benefit i j t) in
        let one : (j : ℕ) → before (pos (share j) *ℤ (benefit j +ℤ nearer j)) (pos (share j) *ℤ (benefit j +ℤ further j)) = λ j.
        way.times (share j) (benefit j +ℤ nearer j) (benefit j +ℤ further j) (way.add (benefit j) (benefit j) (nearer j) (further j) (way.same (benefit j)) (end_before k j (t + 1) (omega arith))) in
        let all = way.mean _ _ (sum_before (λ j. pos (share j) *ℤ (benefit j +ℤ nearer j)) (λ j. pos (share j) *ℤ (benefit j +ℤ further j)) (moves c) one) in
        let joined = way.trans _ _ _ (picked_before i t nearer (omega arith)) all in
        way.add _ _ _ _ (way.same (flow c p premium i t)) (way.discount _ _ (way.times (c.factor t) _ _ joined))

module _ (c : Transitions) (law : Lawful c) (p : Payments) (premium i t : ℕ) where
  pub encloses : Encloses c p premium i t (ends c p premium i t)
  encloses = record {
    from_below = end_before ◌≤ℤ◌ smallest upwards c law p premium (c.years - t) i t (omega arith);
    from_above = end_before (λ a b. b ≤ℤ a) largest downwards c law p premium (c.years - t) i t (omega arith);
  }
