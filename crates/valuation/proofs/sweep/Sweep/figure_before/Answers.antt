use Rattle.std.proofs.Common.{rules, ◌≡◌, w64, to_z, of_z, ap₂, ◌∙◌}
use Rattle.valuation.proofs.sweep.Sweep.figure_before.Goals as goal

pub returns : goal.returns
returns g c =
    let v = g.V.Valuation.operations c.args.self.now.valuation.now in
    let paid : to_z w64 (of_z w64 c.flow_of-flow.result) ≡ c.flow_of-flow.result = search rules in
    c.add.ensures ∙ ap₂ v.add c.ahead-discounted.ensures.discounted (paid ∙ c.flow_of-flow.ensures.value)
