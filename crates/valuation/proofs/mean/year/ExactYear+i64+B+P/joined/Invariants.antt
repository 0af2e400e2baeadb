use Rattle.std.proofs.Common.{◌≡◌, get_or, pos}
use Rattle.valuation.proofs.Steps.{so_far}
use Rattle.valuation.proofs.mean.year.ExactYear+i64+B+P.joined.Given as goal

abbrev pub invariant-loop-to : goal.invariant-loop-to
invariant-loop-to g l =
    l.sum ≡ so_far (g.B.Basis.meaning l.self.basis.now) (g.P.Plan.payments l.self.plan.now) l.state l.self.year (λ j. get_or l.self.after.now j (pos 0)) l.to
