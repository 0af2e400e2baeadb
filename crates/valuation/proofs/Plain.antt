-- The plain definitions of reserve and span, as valuations of their own: they keep order too. Assumes nothing.
use Rattle.std.proofs.Common.{◌≡◌, ℕ, zero, suc, ◌+◌, ◌-◌, List, [], ◌∷◌, ℤ, pos, ◌+ℤ◌, ◌*ℤ◌, ◌≤ℤ◌, refl, ap, ◌∙◌, subst, arith}
use borrow.Author.Differences.{ints}
use Rattle.std.specs.List.{AllZip}
use Rattle.units.proofs.Whole.{times_le}
use Rattle.basis.specs.Transitions.{Transitions, moves}
use Rattle.plan.specs.Payments.{Payments}
use Rattle.valuation.specs.declared.span.ends.Ends.{Ends}
use Rattle.valuation.specs.Comparisons.{NowhereValuedLower, NeverRaisedByPremium}
use Rattle.valuation.specs.Extremes.{smallest, largest}
use Rattle.valuation.specs.Figures.{flow, figure_before, figure_with, figure}
use Rattle.valuation.specs.Means.{rounded_mean, rounded_discount, mean_ends, products}
use Rattle.valuation.specs.Operations.{Operations, EndByEnd, Ordered}
use Rattle.valuation.specs.Orders.{rounded_mean_keeps, rounded_discount_keeps}
use Rattle.valuation.specs.Reserves.{reserve_with, reserve}
use Rattle.valuation.specs.SpanOperations.{possible, hull, span_ends}
use Rattle.valuation.specs.SpanOrders.{hull_keeps, possible_keeps}
use Rattle.valuation.specs.Spans.{ends}
use Rattle.valuation.proofs.Order.{nowhere_valued_lower, never_raised_by_premium}
use Rattle.valuation.proofs.SpanAgreement.{ends_with, possible_map}
use Rattle.valuation.proofs.Sums.{products_map}

discount : ℕ → ℤ → ℤ
discount factor x = rounded_discount (pos factor *ℤ x)

discount_keeps : (factor : ℕ) (x y : ℤ) → x ≤ℤ y → discount factor x ≤ℤ discount factor y
unfolding discount
discount_keeps factor x y h = rounded_discount_keeps _ _ (times_le factor x y h)

-- ---- the mean, where no sum or product saturates

abbrev whole_mean : Operations ℤ
whole_mean = record {
  make = λ a. a;
  add = λ x a. a +ℤ x;
  join = λ i row xs. rounded_mean (products row xs);
  discount = λ factor x. rounded_discount (pos factor *ℤ x);
}

products_keeps : (row : List ℕ) (xs ys : List ℤ) → AllZip (EndByEnd mean_ends) xs ys →
    products row xs ≤ℤ products row ys
products_keeps [] xs ys k = omega (arith, ints)
products_keeps (p ∷ ps) [] [] k = omega (arith, ints)
products_keeps (p ∷ ps) [] (y ∷ ys) k = absurd k
products_keeps (p ∷ ps) (x ∷ xs) [] k = absurd k
products_keeps (p ∷ ps) (x ∷ xs) (y ∷ ys) k =
    omega (arith, ints, times_le p x y k.0.0, products_keeps ps xs ys k.1)

whole_mean_ordered : Ordered mean_ends whole_mean
unfolding discount
whole_mean_ordered = record {
  make_keeps = λ a b h. (h, tt);
  add_keeps = λ x y a b h k. (omega (arith, ints, h.0, k), tt);
  join_keeps = λ i row xs ys h. (rounded_mean_keeps _ _ (products_keeps row xs ys h), tt);
  discount_keeps = λ factor x y h. (discount_keeps factor x y h.0, tt);
}

module _ (c : Transitions) (p : Payments) (premium : ℕ) where
  reserve_with_is : (k i t : ℕ) → figure_with whole_mean c p premium k i t ≡ reserve_with c p premium k i t
  reserve_with_is zero i t = refl
  reserve_with_is (suc k) i t =
      let same : (λ (j : ℕ). figure_with whole_mean c p premium k j (t + 1)) ≡ (λ (j : ℕ). reserve_with c p premium k j (t + 1)) = λ u j. reserve_with_is k j (t + 1) u in
      ap (λ f. figure_before whole_mean c p premium i t f) same
      ∙ ap (λ z. flow c p premium i t +ℤ rounded_discount (pos (c.factor t) *ℤ rounded_mean z)) (products_map (λ j. c.share i j t) (λ j. pos (p.move_benefit i j t) +ℤ reserve_with c p premium k j (t + 1)) (moves c))

-- ---- the span, likewise

abbrev whole_span : Operations Ends
whole_span = record {
  make = λ a. record { least = a; greatest = a };
  add = λ x a. record { least = a +ℤ x.least; greatest = a +ℤ x.greatest };
  join = λ i row xs. hull (possible row xs);
  discount = λ factor x. record { least = rounded_discount (pos factor *ℤ x.least); greatest = rounded_discount (pos factor *ℤ x.greatest) };
}

whole_span_ordered : Ordered span_ends whole_span
unfolding discount
whole_span_ordered = record {
  make_keeps = λ a b h. (h, (h, tt));
  add_keeps = λ x y a b h k. (omega (arith, ints, h.0, k), (omega (arith, ints, h.1.0, k), tt));
  join_keeps = λ i row xs ys h. hull_keeps _ _ (possible_keeps (EndByEnd span_ends) row xs ys h);
  discount_keeps = λ factor x y h. (
    discount_keeps factor x.least y.least h.0,
    (discount_keeps factor x.greatest y.greatest h.1.0, tt),
  );
}

module _ (c : Transitions) (p : Payments) (premium : ℕ) where
  end_of : ℤ → ℕ → ℕ → ℤ
  end_of z i t = flow c p premium i t +ℤ rounded_discount (pos (c.factor t) *ℤ z)

  span_with_is : (k i t : ℕ) → figure_with whole_span c p premium k i t ≡ ends_with c p premium k i t
  unfolding end_of
  span_with_is zero i t = refl
  span_with_is (suc k) i t =
      let same : (λ (j : ℕ). figure_with whole_span c p premium k j (t + 1)) ≡ (λ (j : ℕ). ends_with c p premium k j (t + 1)) = λ u j. span_with_is k j (t + 1) u in
      let added : ℕ → Ends = λ j. whole_span.add (ends_with c p premium k j (t + 1)) (pos (p.move_benefit i j t)) in
      let low = ap (λ xs. end_of (smallest xs) i t) (possible_map (λ x. x.least) (λ j. c.share i j t) added (moves c)) in
      let high = ap (λ xs. end_of (largest xs) i t) (possible_map (λ x. x.greatest) (λ j. c.share i j t) added (moves c)) in
      ap (λ f. figure_before whole_span c p premium i t f) same ∙ (λ u. record { least = low u; greatest = high u })

-- ---- order of the plain definitions

module _ (c : Transitions) where
  reserves_same : (λ (p : Payments) (premium i t : ℕ). figure whole_mean c p premium i t) ≡ reserve c
  reserves_same = λ u p premium i t. reserve_with_is c p premium (c.years - t) i t u

  spans_same : (λ (p : Payments) (premium i t : ℕ). figure whole_span c p premium i t) ≡ ends c
  spans_same = λ u p premium i t. span_with_is c p premium (c.years - t) i t u

  pub reserve_nowhere_lower : NowhereValuedLower mean_ends c (reserve c)
  reserve_nowhere_lower =
      subst (NowhereValuedLower mean_ends c) reserves_same
      (nowhere_valued_lower mean_ends whole_mean whole_mean_ordered c)

  pub reserve_never_raised : NeverRaisedByPremium mean_ends c (reserve c)
  reserve_never_raised =
      subst (NeverRaisedByPremium mean_ends c) reserves_same
      (never_raised_by_premium mean_ends whole_mean whole_mean_ordered c)

  pub span_nowhere_lower : NowhereValuedLower span_ends c (ends c)
  span_nowhere_lower =
      subst (NowhereValuedLower span_ends c) spans_same
      (nowhere_valued_lower span_ends whole_span whole_span_ordered c)

  pub span_never_raised : NeverRaisedByPremium span_ends c (ends c)
  span_never_raised =
      subst (NeverRaisedByPremium span_ends c) spans_same
      (never_raised_by_premium span_ends whole_span whole_span_ordered c)
