use Rattle.std.proofs.Common.{rules, ◌≡◌, ◌≤◌, arith}
use borrow.Author.Differences.{ints}
use Rattle.valuation.specs.Brackets.{width_of}
use Rattle.valuation.specs.Premiums.{Suffices}
use Rattle.valuation.proofs.Premiums.{least_above}
use Rattle.valuation.proofs.pricing.least_between.Goals as goal
use Rattle.valuation.proofs.pricing.least_between.Goals.{else-loop-left-test, then-loop-left-test+in-None}

pub returns-clause-least : goal.returns-clause-least
returns-clause-least g c =
    let b = c.loop-left.bracket in
    let inv = c.loop-left.invariant in
    let basis = g.B.Basis.meaning c.args.basis.now in
    let plan = g.P.Plan.payments c.args.plan.now in
    let neighbours : width_of b ≤ 1 = elim c.loop-left-test.branch [
      | else-loop-left-test w ↦ let none : c.loop-left.left ≡ 0 = omega arith in rw (none) at inv.0
      | then-loop-left-test+in-None w ↦ let h = w.in-None in search rules
    ] in
    let not : Suffices basis plan c.args.state c.args.year c.args.bracket.bound b.low.premium.ticks → ⊥ =
    λ s. omega (arith, ints, s, inv.1.at_low, inv.2, b.low_above) in
    least_above basis plan _ _ _ b.low.premium.ticks _ not (omega (arith, neighbours)) b.high.premium.range
    (omega (arith, ints, inv.1.at_high, inv.2, b.high_within))
