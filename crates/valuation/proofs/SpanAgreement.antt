-- The sweep's figures in the span are its plain ends, which do not leave ±5 · 10^12 ticks. Assumes nothing.
use Rattle.std.proofs.Common.{◌≡◌, ℕ, zero, suc, ◌+◌, ◌-◌, ◌*◌, ◌≤◌, Bool, true, false, cond, nat_lt, List, [], ◌∷◌, map, ℤ, pos, ◌+ℤ◌, ◌*ℤ◌, refl, sym, ap, ◌∙◌, mul-le-mul_right, arith}
use Rattle.std.specs.List.{AllByRecursion, filter}
use Rattle.std.proofs.Math.IntN.{+ℤ_comm}
use Rattle.units.specs.Near.{Within}
use Rattle.units.specs.Ranges.{limit}
use Rattle.units.proofs.Distances.{within_pos, within_more, within_add, within_times}
use Rattle.basis.specs.Transitions.{Transitions, Lawful, moves}
use Rattle.plan.specs.Payments.{Payments, InRange}
use Rattle.valuation.specs.declared.span.ends.Ends.{Ends}
use Rattle.valuation.specs.Extremes.{smallest, largest}
use Rattle.valuation.specs.Figures.{flow, figure_before, figure_with, figure, IsFigureOf}
use Rattle.valuation.specs.Means.{mean, LawfulFigure}
use Rattle.valuation.specs.SpanOperations.{possible, span, LawfulEnds}
use Rattle.valuation.specs.Spans.{possible_moves, follows, end_with, ends}
use Rattle.valuation.proofs.Agreement.{add_is, discount_is}
use Rattle.valuation.proofs.Extremes.{smallest_within, largest_within}
use Rattle.valuation.proofs.Range.{reach, flow_within}
use Rattle.valuation.proofs.Rounded.{rounded_discount_within}
use Rattle.valuation.proofs.Sums.{all_map_every}

-- an end of what follows the moves with a share
counted_map : {F Y : Type 0} (e : F → Y) (b : Bool) (x : F) (xs : List F) → map e (cond b (x ∷ xs) xs) ≡ cond b (e x ∷ map e xs) (map e xs)
counted_map e true x xs = refl
counted_map e false x xs = refl

pub possible_map : {F Y : Type 0} (e : F → Y) (share : ℕ → ℕ) (g : ℕ → F) (js : List ℕ) → map e (possible (map share js) (map g js)) ≡ map (λ j. e (g j)) (filter (λ j. nat_lt 0 (share j)) js)
possible_map e share g [] = refl
possible_map e share g (j ∷ js) =
    counted_map e (nat_lt 0 (share j)) (g j) (possible (map share js) (map g js))
    ∙ ap (λ ys. cond (nat_lt 0 (share j)) (e (g j) ∷ ys) ys) (possible_map e share g js)
    ∙ sym (counted_map (λ j. e (g j)) (nat_lt 0 (share j)) j (filter (λ j. nat_lt 0 (share j)) js))

-- both ends, of which k years are left
abbrev pub ends_with : Transitions → Payments → ℕ → ℕ → ℕ → ℕ → Ends
ends_with c p premium k i t = record { least = end_with c p smallest premium k i t; greatest = end_with c p largest premium k i t }

module _ (c : Transitions) (law : Lawful c) (p : Payments) (range : InRange p) (premium : ℕ) (small : premium ≤ limit) where
  paid : (i j t : ℕ) → Within limit (pos (p.move_benefit i j t))
  paid i j t = within_pos limit (p.move_benefit i j t) (range.most_move_benefit i j t)

  -- one end
  module _ (pick : List ℤ → ℤ) (keeps : (d : ℕ) (xs : List ℤ) → AllByRecursion (Within d) xs → Within d (pick xs)) where
    picked_within : (i t d : ℕ) (next : ℕ → ℤ) → ((j : ℕ) → Within d (next j)) → Within (limit + d) (pick (follows c p i t next))
    picked_within i t d next each = keeps (limit + d) _ (all_map_every (Within (limit + d)) (λ j. pos (p.move_benefit i j t) +ℤ next j) (λ j. within_add (paid i j t) (each j)) (possible_moves c i t))

    end_within : (k i t : ℕ) → k ≤ c.years - t → Within (reach k) (end_with c p pick premium k i t)
    end_within zero i t l = within_more (omega arith) (flow_within c law p range premium small i t)
    end_within (suc k) i t l =
        let next : ℕ → ℤ = λ j. end_with c p pick premium k j (t + 1) in
        let picked = picked_within i t (reach k) next (λ j. end_within k j (t + 1) (omega arith)) in
        let product : Within (1000000 * (limit + reach k)) (pos (c.factor t) *ℤ pick (follows c p i t next)) = within_more (mul-le-mul_right (limit + reach k) (law.most_factor t)) (within_times (c.factor t) picked) in
        within_more (omega arith) (within_add (flow_within c law p range premium small i t) (rounded_discount_within (limit + reach k) _ product))

    pub end_bound : (i t : ℕ) → LawfulFigure (end_with c p pick premium (c.years - t) i t)
    end_bound i t =
        let years = law.most_years in
        within_more (omega arith) (end_within (c.years - t) i t (omega arith))

    -- one end a year earlier, in the operations of the mean
    earlier_end : (k i t : ℕ) → suc k ≤ c.years - t → mean.add (mean.discount (c.factor t) (pick (map (λ j. mean.add (end_with c p pick premium k j (t + 1)) (pos (p.move_benefit i j t))) (possible_moves c i t)))) (flow c p premium i t) ≡ end_with c p pick premium (suc k) i t
    earlier_end k i t l =
        let years = law.most_years in
        let next : ℕ → ℤ = λ j. end_with c p pick premium k j (t + 1) in
        let each : (j : ℕ) → Within (reach k) (next j) = λ j. end_within k j (t + 1) (omega arith) in
        let same : (j : ℕ) → mean.add (next j) (pos (p.move_benefit i j t)) ≡ pos (p.move_benefit i j t) +ℤ next j = λ j.
        add_is (next j) (pos (p.move_benefit i j t)) (within_more (omega arith) (each j)) (within_more (omega arith) (paid i j t)) ∙ +ℤ_comm (next j) (pos (p.move_benefit i j t)) in
        let all : map (λ j. mean.add (next j) (pos (p.move_benefit i j t))) (possible_moves c i t) ≡ follows c p i t next = λ u. map (λ j. same j u) (possible_moves c i t) in
        let picked = picked_within i t (reach k) next each in
        let product : Within (1000000 * (limit + reach k)) (pos (c.factor t) *ℤ pick (follows c p i t next)) = within_more (mul-le-mul_right (limit + reach k) (law.most_factor t)) (within_times (c.factor t) picked) in
        ap (λ xs. mean.add (mean.discount (c.factor t) (pick xs)) (flow c p premium i t)) all
        ∙ ap (λ z. mean.add z (flow c p premium i t)) (discount_is (c.factor t) (pick (follows c p i t next)) (law.most_factor t) (within_more (omega arith) picked))
        ∙ add_is _ (flow c p premium i t) (within_more (omega arith) (rounded_discount_within (limit + reach k) _ product)) (within_more (omega arith) (flow_within c law p range premium small i t))
        ∙ +ℤ_comm _ (flow c p premium i t)

  pub ends_with_is : (k i t : ℕ) → k ≤ c.years - t → figure_with span c p premium k i t ≡ ends_with c p premium k i t
  ends_with_is zero i t l = refl
  ends_with_is (suc k) i t l =
      let same : (λ (j : ℕ). figure_with span c p premium k j (t + 1)) ≡ (λ (j : ℕ). ends_with c p premium k j (t + 1)) = λ u j. ends_with_is k j (t + 1) (omega arith) u in
      let added : ℕ → Ends = λ j. span.add (ends_with c p premium k j (t + 1)) (pos (p.move_benefit i j t)) in
      let low = ap (λ xs. mean.add (mean.discount (c.factor t) (smallest xs)) (flow c p premium i t)) (possible_map (λ x. x.least) (λ j. c.share i j t) added (moves c)) ∙ earlier_end smallest smallest_within k i t l in
      let high = ap (λ xs. mean.add (mean.discount (c.factor t) (largest xs)) (flow c p premium i t)) (possible_map (λ x. x.greatest) (λ j. c.share i j t) added (moves c)) ∙ earlier_end largest largest_within k i t l in
      ap (λ f. figure_before span c p premium i t f) same ∙ (λ u. record { least = low u; greatest = high u })

  pub ends_is : (i t : ℕ) → figure span c p premium i t ≡ ends c p premium i t
  ends_is i t = ends_with_is (c.years - t) i t (omega arith)

  pub ends_bound : (i t : ℕ) → LawfulEnds (ends c p premium i t)
  ends_bound i t = record { least = end_bound smallest smallest_within i t; greatest = end_bound largest largest_within i t }

pub ends_are_figure : IsFigureOf span ends
ends_are_figure c law p range premium small = ends_is c law p range premium small
