-- What it takes to close a year, and the move by which it closes. Assumes nothing.
use Rattle.std.specs.Prelude.{◌≡◌, ℕ, ◌<◌, ℤ, pos, negsuc, ◌≤ℤ◌, Result, Ok, Err}
use Rattle.units.specs.Rules.{rule_number, rule_layer}
use Rattle.units.specs.declared.fault.Layer.TheVariants.{Contract as ContractLayer}
use Rattle.units.specs.declared.rule.Rule.{Rule}
use Rattle.basis.specs.Transitions.{Transitions}
use Rattle.basis.specs.declared.Basis.{Ghosts as BasisGhosts}
use Rattle.plan.specs.declared.Plan.{Ghosts as PlanGhosts}
use Rattle.valuation.specs.Closings.{IsMove}
use Rattle.valuation.specs.declared.closing.Move.{Move}
use Rattle.contract.specs.ContractStates.{basis_of, standing}
use Rattle.contract.specs.Ledgers.{Close, FirstObjection}
use Rattle.contract.specs.Standings.{Standing}
use Rattle.contract.specs.declared.contract.Contract.{Contract}

-- what it takes that nothing stands against closing a year
pub record MayClose (c : Transitions) (s : Standing) (end : ℕ) (rate : ℤ) : Type 0 where
  pub year_left : s.year < c.years
  pub in_basis : end < c.states
  pub rate_low : negsuc 499999 ≤ℤ rate
  pub rate_high : rate ≤ℤ pos 500000
  pub may_move : 0 < c.share s.state end s.year
  pub number_left : s.number < 9999

module _ {B P : Type 0} {b : BasisGhosts B} {p : PlanGhosts P} where
  -- a contract may close the year by this move; or the first objection to that is told by this rule
  abbrev pub FindsMove : Contract B P b p → ℕ → ℤ → Result (Move B b) Rule → Type 0
  FindsMove k end rate (Ok step) =
      MayClose (basis_of k) (standing k) end rate × IsMove step k.basis.now k.state end k.year
  FindsMove k end rate (Err rule) =
      FirstObjection (basis_of k) (standing k) (Close end rate) (rule_number rule)
      × (rule_layer rule ≡ ContractLayer)
