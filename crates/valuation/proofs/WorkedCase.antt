-- The figures of the definitions, by computing them. Assumes nothing.
use Rattle.std.proofs.Common.{◌≡◌, pos, negsuc, ◌≤ℤ◌, refl, subst, lit≤, arith}
use borrow.Author.Differences.{ints}
use Rattle.basis.specs.Transitions.{Transitions, AgreeEverywhere}
use Rattle.valuation.specs.Premiums.{Suffices}
use Rattle.valuation.specs.WorkedCase.{worked_basis, worked_plan, WorkedRounding, WorkedFigures}
use Rattle.valuation.proofs.Premiums.{none_up_to}

too_cheap : Suffices worked_basis worked_plan 0 0 (pos 0) 452486 → ⊥
too_cheap suffices = let no : pos 1 ≤ℤ pos 0 = suffices in omega (arith, ints, no)

pub worked_rounding : WorkedRounding
worked_rounding = record {
  half = refl;
  below_half = refl;
  half_below_nought = refl;
  past_half_below_nought = refl;
}

pub worked_figures : WorkedFigures worked_basis
worked_figures = record {
  reserve_one_tick_too_cheap = refl;
  reserve_at_premium = refl;
  least_premium = record {
    in_range = lit≤ tt;
    suffices = (let yes : negsuc 0 ≤ℤ pos 0 = omega (arith, ints) in yes);
    no_lower = none_up_to worked_basis worked_plan 0 0 (pos 0) 452486 too_cheap;
  };
  exact_at_premium = refl;
  span_at_premium = refl;
}

-- and on any basis that is the same
same_basis : (a b : Transitions) → AgreeEverywhere a b → a ≡ b
same_basis a b agree = λ u. record {
  states = agree.states u;
  years = agree.years u;
  factor = λ t. agree.factor t u;
  share = λ i j t. agree.share i j t u;
}

pub worked_figures_on : (c : Transitions) → AgreeEverywhere worked_basis c → WorkedFigures c
worked_figures_on c agree = subst WorkedFigures (same_basis worked_basis c agree) worked_figures
