-- The sweep's figures in the mean are the reserves. Assumes nothing.
use Rattle.std.proofs.Common.{◌≡◌, ℕ, zero, suc, ◌+◌, ◌-◌, ◌*◌, ◌<◌, ◌≤◌, List, map, ℤ, pos, ◌+ℤ◌, ◌*ℤ◌, refl, ap, ◌∙◌, mul-le-mul_right, arith}
use Rattle.std.specs.List.{AllByRecursion}
use Rattle.std.proofs.Math.IntN.{+ℤ_comm, +ℤ_idl}
use Rattle.std.proofs.lemmas.List.Sums.{sum-map}
use Rattle.units.specs.Near.{Within}
use Rattle.units.specs.Ranges.{million, limit}
use Rattle.units.proofs.Distances.{within_pos, within_more, within_add, within_times}
use Rattle.basis.specs.Transitions.{Transitions, Lawful, moves}
use Rattle.plan.specs.Payments.{Payments, InRange}
use Rattle.valuation.specs.Figures.{flow, joined, discounted, figure_before, figure_with, figure}
use Rattle.valuation.specs.Figures.{IsFigureOf}
use Rattle.valuation.specs.Means.{rounded_mean, rounded_discount, mean, LawfulFigure, LawfulRow, products}
use Rattle.valuation.specs.Reserves.{expected, present, reserve_with, reserve}
use Rattle.valuation.proofs.Sums.{unsaturated, weighted_is, products_map, all_map_every}
use Rattle.valuation.proofs.Range.{reach, shares_most, expected_within, present_within, flow_within, reserve_within}

-- the mean's own operations where every answer is fixed
pub join_is : (row : List ℕ) (xs : List ℤ) (i : ℕ) → LawfulRow row → AllByRecursion LawfulFigure xs → mean.join i row xs ≡ rounded_mean (products row xs)
join_is row xs i whole each = ap rounded_mean (weighted_is row xs 0 (pos 0) (omega arith) (within_pos _ 0 (omega arith)) each ∙ +ℤ_idl (products row xs))

pub discount_is : (factor : ℕ) (x : ℤ) → factor ≤ million → LawfulFigure x → mean.discount factor x ≡ rounded_discount (pos factor *ℤ x)
discount_is factor x low small =
    let product : factor * 5000000000000 ≤ million * 5000000000000 = mul-le-mul_right 5000000000000 low in
    ap rounded_discount (unsaturated _ (within_more (omega arith) (within_times factor small)))

pub add_is : (x a : ℤ) → LawfulFigure x → LawfulFigure a → mean.add x a ≡ x +ℤ a
add_is x a small more = unsaturated _ (within_more (omega arith) (within_add small more))

module _ (c : Transitions) (law : Lawful c) (p : Payments) (range : InRange p) where
  module _ (i t d : ℕ) (next : ℕ → ℤ) (early : t < c.years) (each : (j : ℕ) → Within d (next j)) (room : limit + d ≤ 5000000000000) where
    paid : (j : ℕ) → Within limit (pos (p.move_benefit i j t))
    paid j = within_pos limit (p.move_benefit i j t) (range.most_move_benefit i j t)

    follows_within : (j : ℕ) → LawfulFigure (pos (p.move_benefit i j t) +ℤ next j)
    follows_within j = within_more room (within_add (paid j) (each j))

    follows_is : map (λ j. mean.add (next j) (pos (p.move_benefit i j t))) (moves c) ≡ map (λ j. pos (p.move_benefit i j t) +ℤ next j) (moves c)
    follows_is =
        let same : (j : ℕ) → mean.add (next j) (pos (p.move_benefit i j t)) ≡ pos (p.move_benefit i j t) +ℤ next j = λ j.
        add_is (next j) (pos (p.move_benefit i j t)) (within_more (omega arith) (each j)) (within_more (omega arith) (paid j)) ∙ +ℤ_comm (next j) (pos (p.move_benefit i j t)) in
        λ u. map (λ j. same j u) (moves c)

    pub joined_is : joined mean c p i t next ≡ expected c p i t next
    joined_is =
        let share : ℕ → ℕ = λ j. c.share i j t in
        let follows : ℕ → ℤ = λ j. pos (p.move_benefit i j t) +ℤ next j in
        let whole : LawfulRow (map share (moves c)) = omega (arith, sum-map share (moves c), shares_most c law p range i t early) in
        ap (λ ys. mean.join i (map share (moves c)) ys) follows_is
        ∙ join_is (map share (moves c)) (map follows (moves c)) i whole (all_map_every LawfulFigure follows follows_within (moves c))
        ∙ ap rounded_mean (products_map share follows (moves c))

    pub discounted_is : discounted mean c p i t next ≡ present c p i t next
    discounted_is =
        ap (mean.discount (c.factor t)) joined_is
        ∙ discount_is (c.factor t) (expected c p i t next) (law.most_factor t) (within_more room (expected_within c law p range i t d next early each))

  module _ (premium : ℕ) (small : premium ≤ limit) where
    pub figure_with_is : (k i t : ℕ) → k ≤ c.years - t → figure_with mean c p premium k i t ≡ reserve_with c p premium k i t
    figure_with_is zero i t l = refl
    figure_with_is (suc k) i t l =
        let next : ℕ → ℤ = λ j. reserve_with c p premium k j (t + 1) in
        let same : (λ (j : ℕ). figure_with mean c p premium k j (t + 1)) ≡ next = λ u j. figure_with_is k j (t + 1) (omega arith) u in
        let years = law.most_years in
        let each : (j : ℕ) → Within (reach k) (next j) = λ j. reserve_within c law p range premium small k j (t + 1) (omega arith) in
        ap (λ f. figure_before mean c p premium i t f) same
        ∙ ap (λ z. mean.add z (flow c p premium i t)) (discounted_is i t (reach k) next (omega arith) each (omega arith))
        ∙ add_is (present c p i t next) (flow c p premium i t) (within_more (omega arith) (present_within c law p range i t (reach k) next (omega arith) each)) (within_more (omega arith) (flow_within c law p range premium small i t))
        ∙ +ℤ_comm (present c p i t next) (flow c p premium i t)

    pub figure_is : (i t : ℕ) → figure mean c p premium i t ≡ reserve c p premium i t
    figure_is i t = figure_with_is (c.years - t) i t (omega arith)

    pub reserve_bound : (i t : ℕ) → LawfulFigure (reserve c p premium i t)
    reserve_bound i t =
        let years = law.most_years in
        within_more (omega arith) (reserve_within c law p range premium small (c.years - t) i t (omega arith))

pub reserve_is_figure : IsFigureOf mean reserve
reserve_is_figure c law p range premium small = figure_is c law p range premium small
