use Rattle.std.proofs.Common.{rules, ◌≡◌, get_or, pos, w64, to_z, ap, ap₂, ◌∙◌}
use Rattle.valuation.proofs.sweep.Sweep.following.Goals as goal

pub returns : goal.returns
returns g c =
    let v = g.V.Valuation.operations c.args.self.now.valuation.now in
    let figure : c.unwrap_or-figure.result ≡ get_or c.args.after.now c.args.to (v.make (pos 0)) = search (rules, c.unwrap_or-figure.ensures, c.copied.ensures, c.get.ensures, c.make.ensures) in
    let paid : to_z w64 c.move_benefit-benefit.result ≡ pos c.move_benefit-benefit.result = search rules in
    c.add.ensures ∙ ap₂ v.add figure (paid ∙ ap pos c.move_benefit-benefit.ensures)
