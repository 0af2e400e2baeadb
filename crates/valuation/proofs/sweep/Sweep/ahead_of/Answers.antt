use Rattle.std.proofs.Common.{◌≡◌, ◌+◌, take, ap, ◌∙◌}
use Rattle.valuation.specs.Figures.{figure, figures_of}
use Rattle.valuation.proofs.Years.{joined_from_is}
use Rattle.valuation.proofs.Backwards.{figure_read}
use Rattle.valuation.proofs.sweep.Sweep.ahead_of.Goals as goal

pub returns-clause-discounted : goal.returns-clause-discounted
returns-clause-discounted g c =
    let sweep = c.args.self.now in
    let v = g.V.Valuation.operations sweep.valuation.now in
    let b = g.B.Basis.meaning sweep.basis.now in
    let p = g.P.Plan.payments sweep.plan.now in
    let known : take c.states.result c.back_to-figures.result ≡ figures_of v b p sweep.premium.ticks (c.args.year + 1) =
    ap (λ m. take m c.back_to-figures.result) c.states.ensures ∙ c.back_to-figures.ensures.figures in
    c.ahead-pair.ensures.discounted
    ∙ ap (v.discount (b.factor c.args.year)) (joined_from_is v b p c.args.state c.args.year (λ j. figure v b p sweep.premium.ticks j (c.args.year + 1)) _ known)

pub returns-clause-joined : goal.returns-clause-joined
returns-clause-joined g c =
    let sweep = c.args.self.now in
    let v = g.V.Valuation.operations sweep.valuation.now in
    let b = g.B.Basis.meaning sweep.basis.now in
    let p = g.P.Plan.payments sweep.plan.now in
    let known : take c.states.result c.back_to-figures.result ≡ figures_of v b p sweep.premium.ticks (c.args.year + 1) =
    ap (λ m. take m c.back_to-figures.result) c.states.ensures ∙ c.back_to-figures.ensures.figures in
    c.ahead-pair.ensures.joined
    ∙ joined_from_is v b p c.args.state c.args.year (λ j. figure v b p sweep.premium.ticks j (c.args.year + 1)) _ known

pub returns-clause-later : goal.returns-clause-later
returns-clause-later g c =
    let sweep = c.args.self.now in
    figure_read (g.V.Valuation.operations sweep.valuation.now) (g.B.Basis.meaning sweep.basis.now) (g.P.Plan.payments sweep.plan.now) sweep.premium.ticks (c.args.year + 1) c.back_to-figures.result c.back_to-figures.ensures.figures c.args.end c.requires.end _
