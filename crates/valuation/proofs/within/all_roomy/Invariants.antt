use Rattle.std.proofs.Common.{ℕ, ◌<◌, get_or}
use Rattle.valuation.proofs.within.all_roomy.Given as goal

abbrev pub invariant-loop-figure : goal.invariant-loop-figure
invariant-loop-figure g l = (j : ℕ) → j < l.figure-index → g.F.Roomy.leaves_room (get_or l.after j g.F.Roomy.nothing)
