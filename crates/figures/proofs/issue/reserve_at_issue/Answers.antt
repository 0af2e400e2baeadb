use Rattle.std.proofs.Common.{rules, ◌≡◌, pos, w64, to_z, of_z, subst}
use Rattle.std.proofs.lemmas.Int.{to_z-of_z}
use Rattle.valuation.specs.Reserves.{reserve}
use Rattle.figures.proofs.issue.reserve_at_issue.Goals as goal

pub returns : goal.returns
returns g c = λ p charged.
    let kept : to_z w64 (of_z w64 c.reserve.result) ≡ c.reserve.result = search rules in
    let taken : pos c.in_ok-premium.premium.ticks ≡ c.args.ticks = simp (to_z-of_z, c.ranges.ticks) at c.in_ok-premium.ensures in
    let same : c.in_ok-premium.premium.ticks ≡ p = cc (taken, charged) in
    subst (λ k. to_z w64 (of_z w64 c.reserve.result) ≡ reserve (g.B.Basis.meaning c.args.basis.now) (g.P.Plan.payments c.args.plan.now) k 0 0) same (rw kept c.reserve.ensures.value)
