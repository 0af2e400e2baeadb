-- What a sweep answers, in any state and year. Assumes nothing.
use Rattle.std.specs.Prelude.{ℕ, ◌+◌, List, get_or, pos}
use Rattle.basis.specs.declared.Basis.{Ghosts as BasisGhosts}
use Rattle.basis.specs.Transitions.{Transitions}
use Rattle.plan.specs.declared.Plan.{Ghosts as PlanGhosts}
use Rattle.plan.specs.Payments.{Payments}
use Rattle.valuation.specs.declared.Valuation.{Ghosts as ValuationGhosts}
use Rattle.valuation.specs.declared.sweep.Sweep.{Sweep}
use Rattle.valuation.specs.Figures.{joined, joined_from, discounted, figure, figure_from}
use Rattle.valuation.specs.Figures.{figures_from, figures_of, rows_from}
use Rattle.valuation.specs.Operations.{Operations}

module _ {V B P F : Type 0} {v : ValuationGhosts V F} {b : BasisGhosts B} {p : PlanGhosts P} where
  -- the valuation, the basis and the plan of a sweep, as what they mean
  abbrev pub operations_of : Sweep V B P F v b p → Operations F
  operations_of s = v.operations s.valuation.now

  abbrev pub transitions_of : Sweep V B P F v b p → Transitions
  transitions_of s = b.meaning s.basis.now

  abbrev pub payments_of : Sweep V B P F v b p → Payments
  payments_of s = p.payments s.plan.now

  abbrev pub states_of : Sweep V B P F v b p → ℕ
  states_of s = (transitions_of s).states

  abbrev pub years_of : Sweep V B P F v b p → ℕ
  years_of s = (transitions_of s).years

  abbrev pub figure_at : Sweep V B P F v b p → ℕ → ℕ → F
  figure_at s = figure (operations_of s) (transitions_of s) (payments_of s) s.premium.ticks

  -- E and W, from the figures a year later
  abbrev pub joined_at : Sweep V B P F v b p → ℕ → ℕ → F
  joined_at s i t =
      joined (operations_of s) (transitions_of s) (payments_of s) i t (λ j. figure_at s j (t + 1))

  abbrev pub discounted_at : Sweep V B P F v b p → ℕ → ℕ → F
  discounted_at s i t =
      discounted (operations_of s) (transitions_of s) (payments_of s) i t
      (λ j. figure_at s j (t + 1))

  -- what follows a move, E, W, the figure of a state and those of the first states, from a list of
  -- the figures after, a year later
  abbrev pub following_after : Sweep V B P F v b p → ℕ → ℕ → List F → ℕ → F
  following_after s i t after j =
      (operations_of s).add (get_or after j ((operations_of s).make (pos 0)))
      (pos ((payments_of s).move_benefit i j t))

  abbrev pub joined_after : Sweep V B P F v b p → ℕ → ℕ → List F → F
  joined_after s = joined_from (operations_of s) (transitions_of s) (payments_of s)

  abbrev pub discounted_after : Sweep V B P F v b p → ℕ → ℕ → List F → F
  discounted_after s i t after =
      (operations_of s).discount ((transitions_of s).factor t) (joined_after s i t after)

  abbrev pub figure_after : Sweep V B P F v b p → ℕ → ℕ → List F → F
  figure_after s =
      figure_from (operations_of s) (transitions_of s) (payments_of s) s.premium.ticks

  abbrev pub figures_after : Sweep V B P F v b p → ℕ → List F → ℕ → List F
  figures_after s =
      figures_from (operations_of s) (transitions_of s) (payments_of s) s.premium.ticks

  -- the figures of all states of the basis in a year
  abbrev pub figures_in : Sweep V B P F v b p → ℕ → List F
  figures_in s = figures_of (operations_of s) (transitions_of s) (payments_of s) s.premium.ticks

  -- a row of these for each year from one to the last
  abbrev pub rows_from_year : Sweep V B P F v b p → ℕ → List F
  rows_from_year s = rows_from (operations_of s) (transitions_of s) (payments_of s) s.premium.ticks
