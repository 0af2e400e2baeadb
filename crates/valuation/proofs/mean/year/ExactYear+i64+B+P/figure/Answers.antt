use Rattle.std.proofs.Common.{rules, ◌≡◌, w64, to_z, of_z, ap₂, ◌∙◌}
use Rattle.valuation.specs.Means.{mean}
use Rattle.valuation.proofs.mean.year.ExactYear+i64+B+P.figure.Goals as goal

pub brought_back-requires-clause-factor : goal.brought_back-requires-clause-factor
brought_back-requires-clause-factor g c =
    rw c.requires ((g.met.B.Basis.lawful c.args.self.now.basis.now).most_factor c.args.self.now.year)

pub returns : goal.returns
returns g c =
    let kept : to_z w64 (of_z w64 c.brought_back.result) ≡ c.brought_back.result = search rules in
    let joined : to_z w64 (of_z w64 c.joined.result) ≡ c.joined.result = search rules in
    let paid : to_z w64 (of_z w64 c.flow_of-flow.result) ≡ c.flow_of-flow.result = search rules in
    kept ∙ c.brought_back.ensures
    ∙ ap₂ mean.add (ap₂ mean.discount c.requires (joined ∙ c.joined.ensures.value)) (paid ∙ c.flow_of-flow.ensures.value)
