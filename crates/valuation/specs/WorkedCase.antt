-- Figures of the definitions: rounding at its edges, and a case that can be worked by hand. Assumes nothing.
use Rattle.std.specs.Prelude.{◌≡◌, [], ◌∷◌, pos, negsuc}
use Rattle.units.specs.Rounding.{nearest}
use Rattle.basis.specs.LifeTables.{lives}
use Rattle.basis.specs.Transitions.{Transitions}
use Rattle.plan.specs.Endowments.{endows}
use Rattle.plan.specs.Payments.{Payments}
use Rattle.valuation.specs.Exact.{exact}
use Rattle.valuation.specs.Premiums.{LeastPremium}
use Rattle.valuation.specs.Reserves.{reserve}
use Rattle.valuation.specs.Spans.{ends}

-- two years, in which a tenth and a fifth die, and a factor of nine tenths
abbrev pub worked_basis : Transitions
worked_basis = lives (100000 ∷ 200000 ∷ []) 900000

-- an endowment of a million ticks over both years, with the premium due in both
abbrev pub worked_plan : Payments
worked_plan = endows 1000000 2 2

pub record WorkedRounding : Type 0 where
  pub half : nearest (pos 500000) ≡ pos 1
  pub below_half : nearest (pos 499999) ≡ pos 0
  pub half_below_nought : nearest (negsuc 499999) ≡ pos 0
  pub past_half_below_nought : nearest (negsuc 500000) ≡ negsuc 0

-- on the basis of two years, or one that is the same
pub record WorkedFigures (c : Transitions) : Type 0 where
  pub reserve_one_tick_too_cheap : reserve c worked_plan 452486 0 0 ≡ pos 1
  pub reserve_at_premium : reserve c worked_plan 452487 0 0 ≡ negsuc 0
  pub least_premium : LeastPremium c worked_plan 0 0 (pos 0) 452487
  -- -1.47 ticks, with 24 decimals
  pub exact_at_premium : exact c worked_plan 452487 0 0 ≡ negsuc 1469999999999999999999999
  pub span_at_premium : ends c worked_plan 452487 0 0 ≡ record {
    least = negsuc 49724;
    greatest = pos 447513;
  }
