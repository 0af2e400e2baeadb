-- What closing a year works from, by the sweep's figures in the mean. Assumes nothing.
use Rattle.std.proofs.Common.{◌≡◌, ℕ, ◌+◌, ◌-◌, ◌<◌, ◌≤◌, ℤ, ⊎_elim, ap, ◌∙◌, arith}
use Rattle.std.proofs.lemmas.Bool.Decides.{leb_tells}
use Rattle.units.specs.Near.{Within}
use Rattle.units.specs.Ranges.{limit}
use Rattle.units.proofs.Distances.{within_more}
use Rattle.basis.specs.Transitions.{Transitions, Lawful}
use Rattle.plan.specs.Payments.{Payments, InRange}
use Rattle.valuation.specs.Closings.{ClosingValues}
use Rattle.valuation.specs.Figures.{joined, discounted, figure}
use Rattle.valuation.specs.Means.{mean}
use Rattle.valuation.specs.Reserves.{reserve, expected_at, present_at}
use Rattle.valuation.proofs.Agreement.{joined_is, discounted_is, figure_is, reserve_bound}
use Rattle.valuation.proofs.Range.{reach, expected_within, present_within, reserve_within}

below_bound : (bound n share : ℕ) → (bound ≤ n → share ≡ 0) → 0 < share → n < bound
below_bound bound n share nought possible =
    ⊎_elim (λ past. let none = nought past.1 in absurd (omega arith))
    (λ below. omega (arith, below.1)) (leb_tells bound n)

-- a move with a share lies in the basis
module _ (c : Transitions) (law : Lawful c) (i j t : ℕ) (possible : 0 < c.share i j t) where
  pub early : t < c.years
  early = below_bound c.years t _ (law.share_after i j t) possible

  pub from_inside : i < c.states
  from_inside = below_bound c.states i _ (law.share_from_outside i j t) possible

  pub to_inside : j < c.states
  to_inside = below_bound c.states j _ (law.share_to_outside i j t) possible

module _ (c : Transitions) (law : Lawful c) (p : Payments) (range : InRange p)
    (premium : ℕ) (small : premium ≤ limit) (i t end : ℕ) (possible : 0 < c.share i end t) where
  left : t < c.years
  left = early c law i end t possible

  abbrev later : ℕ → ℤ
  later j = reserve c p premium j (t + 1)

  abbrev in_the_mean : ℕ → ℤ
  in_the_mean j = figure mean c p premium j (t + 1)

  figures_are : in_the_mean ≡ later
  figures_are = λ u j. figure_is c law p range premium small j (t + 1) u

  each : (j : ℕ) → Within (reach (c.years - (t + 1))) (later j)
  each j = reserve_within c law p range premium small (c.years - (t + 1)) j (t + 1) (omega arith)

  pub closing_values : (w e l : ℤ) → w ≡ discounted mean c p i t in_the_mean →
      e ≡ joined mean c p i t in_the_mean → l ≡ in_the_mean end →
      ClosingValues c p premium i t end w e l
  closing_values w e l is_w is_e is_l =
      let d : ℕ = reach (c.years - (t + 1)) in
      let years = law.most_years in
      let w_is : w ≡ present_at c p premium i t =
      is_w ∙ ap (λ f. discounted mean c p i t f) figures_are
      ∙ discounted_is c law p range i t d later left each (omega arith) in
      let e_is : e ≡ expected_at c p premium i t =
      is_e ∙ ap (λ f. joined mean c p i t f) figures_are
      ∙ joined_is c law p range i t d later left each (omega arith) in
      let l_is : l ≡ reserve c p premium end (t + 1) =
      is_l ∙ figure_is c law p range premium small end (t + 1) in
      let present = present_within c law p range i t d later left each in
      let expected = expected_within c law p range i t d later left each in
      record {
        year_left = left;
        from_in_basis = from_inside c law i end t possible;
        in_basis = to_inside c law i end t possible;
        discounted_join = w_is;
        join = e_is;
        reserve_after = l_is;
        present_range = rw w_is (within_more (omega arith) present);
        expected_range = rw e_is (within_more (omega arith) expected);
        later_range = rw l_is (reserve_bound c law p range premium small end (t + 1));
      }
