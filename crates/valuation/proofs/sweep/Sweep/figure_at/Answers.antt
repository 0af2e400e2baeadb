use Rattle.std.proofs.Common.{◌≡◌, ◌+◌, ◌<◌, take, ap, ◌∙◌, arith}
use Rattle.valuation.specs.Figures.{figures_of}
use Rattle.valuation.proofs.Years.{figure_from_is}
use Rattle.valuation.proofs.sweep.Sweep.figure_at.Goals as goal

pub returns : goal.returns
returns g c =
    let sweep = c.args.self.now in
    let v = g.V.Valuation.operations sweep.valuation.now in
    let b = g.B.Basis.meaning sweep.basis.now in
    let p = g.P.Plan.payments sweep.plan.now in
    let early : c.args.year < b.years = omega (arith, c.if-year-years.false, c.years.ensures) in
    let known : take c.states.result c.back_to-figures.result ≡ figures_of v b p sweep.premium.ticks (c.args.year + 1) =
    ap (λ m. take m c.back_to-figures.result) c.states.ensures ∙ c.back_to-figures.ensures.figures in
    c.figure_before.ensures ∙ figure_from_is v b p sweep.premium.ticks c.args.year early _ known c.args.state
