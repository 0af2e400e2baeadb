use Rattle.std.proofs.Common.{rules, ◌≡◌, pos, ◌-ℤ◌, ◌<◌, w64, to_z, of_z, nat_lt, cond, ◌&&◌, sym, ap₂, ◌∙◌, arith}
use Rattle.std.proofs.lemmas.Bool.Decides.{nat_tests}
use Rattle.valuation.proofs.Range.{flow_within}
use Rattle.valuation.proofs.flow.flow_of.Goals as goal
use Rattle.valuation.proofs.flow.flow_of.Goals.{else-year-years-via-then-year-years+else-due, else-year-years-via-else-year-years}

pub returns-then-due-clause-value : goal.returns-then-due-clause-value
returns-then-due-clause-value g c =
    let b = g.B.Basis.meaning c.args.basis.now in
    let p = g.P.Plan.payments c.args.plan.now in
    let kept : to_z w64 (of_z w64 (to_z w64 c.benefit-benefit.result -ℤ to_z w64 c.ticks.result)) ≡ pos c.benefit-benefit.result -ℤ pos c.ticks.result = search rules in
    let early : c.args.year < b.years = omega (arith, c.if-year-years.true, c.years.ensures) in
    let charged : cond (nat_lt c.args.year b.years && p.due c.args.state c.args.year) c.args.premium.ticks 0 ≡ c.args.premium.ticks = grind (arith, nat_tests, early, c.if-due.true, c.due.ensures) in
    kept ∙ ap₂ (λ x y. pos x -ℤ pos y) c.benefit-benefit.ensures (c.ticks.ensures.value ∙ sym charged)

pub returns-else-year-years-clause-value : goal.returns-else-year-years-clause-value
returns-else-year-years-clause-value g c =
    let b = g.B.Basis.meaning c.args.basis.now in
    let p = g.P.Plan.payments c.args.plan.now in
    let paid : to_z w64 c.benefit-benefit.result ≡ pos c.benefit-benefit.result -ℤ pos 0 = search rules in
    let free : cond (nat_lt c.args.year b.years && p.due c.args.state c.args.year) c.args.premium.ticks 0 ≡ 0 =
    elim c.else-year-years.branch [
      | else-year-years-via-then-year-years+else-due w ↦ grind (arith, nat_tests, w.if-due.false, w.due.ensures)
      | else-year-years-via-else-year-years w ↦ grind (arith, nat_tests, w.if-year-years.false, c.years.ensures)
    ] in
    paid ∙ ap₂ (λ x y. pos x -ℤ pos y) c.benefit-benefit.ensures (sym free)

pub returns-then-due-clause-range : goal.returns-then-due-clause-range
returns-then-due-clause-range g c =
    rw (returns-then-due-clause-value g c) (flow_within (g.B.Basis.meaning c.args.basis.now) (g.met.B.Basis.lawful c.args.basis.now) (g.P.Plan.payments c.args.plan.now) (g.met.P.Plan.bounded c.args.plan.now) c.args.premium.ticks c.args.premium.range c.args.state c.args.year)

pub returns-else-year-years-clause-range : goal.returns-else-year-years-clause-range
returns-else-year-years-clause-range g c =
    rw (returns-else-year-years-clause-value g c) (flow_within (g.B.Basis.meaning c.args.basis.now) (g.met.B.Basis.lawful c.args.basis.now) (g.P.Plan.payments c.args.plan.now) (g.met.P.Plan.bounded c.args.plan.now) c.args.premium.ticks c.args.premium.range c.args.state c.args.year)
