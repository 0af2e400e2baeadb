use Rattle.std.proofs.Common.{rules, w64, to_z, of_z, arith}
use Rattle.units.specs.Ranges.{limit}
use Rattle.valuation.specs.Premiums.{Suffices}
use Rattle.valuation.proofs.Premiums.{none_up_to, not_at_most}
use Rattle.valuation.proofs.pricing.price.Goals as goal
use Rattle.valuation.proofs.pricing.price.Goals.{in_default-via-in-Some+else-high-bound, in_default-via-in_default}

pub returns-in_default-clause-least : goal.returns-in_default-clause-least
returns-in_default-clause-least g c =
    let basis = g.B.Basis.meaning c.args.basis.now in
    let plan = g.P.Plan.payments c.args.plan.now in
    let bound = to_z w64 (of_z w64 c.args.bound) in
    let not : Suffices basis plan c.args.state c.args.year c.args.bound limit → ⊥ =
    elim c.in_default.branch [
      | in_default-via-in-Some+else-high-bound w ↦ (λ s.
          let high = w.in-Some in
          let above = not_at_most (to_z w64 (of_z w64 high.high.reserve)) bound w.if-high-bound.false in
          search rules)
      | in_default-via-in_default w ↦ (λ s. let h = w.in_default in search rules)
    ] in
    record {
      none = λ premium h. none_up_to basis plan _ _ _ limit not premium (omega (arith, h));
      told = c.breach.ensures;
    }
