use Rattle.std.proofs.Common.{◌≡◌, ◌^◌, ◌≤◌}
use Rattle.valuation.specs.Brackets.{width_of, HasReserves}
use Rattle.valuation.proofs.pricing.least_between.Given as goal

abbrev pub invariant-loop-left : goal.invariant-loop-left
invariant-loop-left g l =
    (width_of l.bracket ≤ 2 ^ l.left)
    × HasReserves (g.B.Basis.meaning l.basis) (g.P.Plan.payments l.plan) l.state l.year l.bracket
    × (l.bracket.bound ≡ l.fn.bracket.bound)
