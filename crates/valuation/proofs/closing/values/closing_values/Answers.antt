use Rattle.std.proofs.Common.{rules}
use Rattle.valuation.proofs.Closings.{early, to_inside, closing_values}
use Rattle.valuation.proofs.closing.values.closing_values.Goals as goal

pub ahead_of-requires-clause-year : goal.ahead_of-requires-clause-year
ahead_of-requires-clause-year g c =
    let step = c.args.step.now in
    early (g.B.Basis.meaning step.basis.now) (g.met.B.Basis.lawful step.basis.now) _ _ _
    step.possible

pub ahead_of-requires-clause-end : goal.ahead_of-requires-clause-end
ahead_of-requires-clause-end g c =
    let step = c.args.step.now in
    to_inside (g.B.Basis.meaning step.basis.now) (g.met.B.Basis.lawful step.basis.now) _ _ _
    step.possible

pub returns : goal.returns
returns g c =
    let step = c.args.step.now in
    let plan = c.args.plan.now in
    let premium = c.args.premium in
    closing_values (g.B.Basis.meaning step.basis.now) (g.met.B.Basis.lawful step.basis.now)
    (g.P.Plan.payments plan) (g.met.P.Plan.bounded plan) premium.ticks premium.range
    step.from step.year step.to step.possible _ _ _
    (Prim.search rules) (Prim.search rules) (Prim.search rules)
