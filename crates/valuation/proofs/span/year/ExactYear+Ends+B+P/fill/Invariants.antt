use Rattle.std.proofs.Common.{◌≡◌, take}
use Rattle.valuation.specs.Figures.{figures_from}
use Rattle.valuation.specs.SpanOperations.{span}
use Rattle.valuation.proofs.span.year.ExactYear+Ends+B+P.fill.Given as goal

-- the places so far hold the figures of the first states
abbrev pub invariant-loop-state : goal.invariant-loop-state
invariant-loop-state g l = take l.state l.figures ≡ figures_from span (g.B.Basis.meaning l.self.basis.now) (g.P.Plan.payments l.self.plan.now) l.self.premium.ticks l.self.year l.self.after.now l.state
