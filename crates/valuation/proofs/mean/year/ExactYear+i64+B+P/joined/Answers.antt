use Rattle.std.proofs.Common.{rules, ◌≡◌, ℕ, ◌+◌, ◌<◌, get_or, ℤ, pos, w64, to_z, of_z, sym, ap, ◌∙◌, arith}
use Rattle.units.proofs.Distances.{within_more}
use Rattle.valuation.specs.Means.{rounded_mean}
use Rattle.valuation.specs.Reserves.{expected}
use Rattle.valuation.proofs.Agreement.{joined_is}
use Rattle.valuation.proofs.Range.{expected_within}
use Rattle.valuation.proofs.RowReads.{row_length, share_read, benefit_read}
use Rattle.valuation.proofs.Steps.{so_far, one_more, share_most, so_far_within}
use Rattle.valuation.proofs.mean.year.ExactYear+i64+B+P.joined.Goals as goal

pub bounds-row-to : goal.bounds-row-to
bounds-row-to g c =
    let b = g.B.Basis.meaning c.args.self.now.basis.now in
    omega (arith, c.loop-to-test.true, c.args.self.now.fits, row_length b c.args.state c.args.self.now.year c.row-row.result.now c.row-row.ensures)

pub add_move-sum-requires-clause-share : goal.add_move-sum-requires-clause-share
add_move-sum-requires-clause-share g c =
    let year = c.args.self.now in
    let law = g.met.B.Basis.lawful year.basis.now in
    let range = g.met.P.Plan.bounded year.plan.now in
    let b = g.B.Basis.meaning year.basis.now in
    let inside : c.loop-to.to < b.states = omega (arith, c.loop-to-test.true, year.fits) in
    let share = share_read b c.args.state year.year c.row-row.result.now c.row-row.ensures c.loop-to.to inside in
    rw share (share_most b law (g.P.Plan.payments year.plan.now) range c.args.state year.year year.early c.loop-to.to inside)

pub add_move-sum-requires-clause-room : goal.add_move-sum-requires-clause-room
add_move-sum-requires-clause-room g c =
    let year = c.args.self.now in
    let law = g.met.B.Basis.lawful year.basis.now in
    let range = g.met.P.Plan.bounded year.plan.now in
    let b = g.B.Basis.meaning year.basis.now in
    let p = g.P.Plan.payments year.plan.now in
    let inside : c.loop-to.to < b.states = omega (arith, c.loop-to-test.true, year.fits) in
    let few : c.loop-to.to < 8 = omega (arith, inside, law.most_states) in
    let next : ℕ → ℤ = λ j. get_or year.after.now j (pos 0) in
    let read : to_z w64 (of_z w64 (next c.loop-to.to)) ≡ next c.loop-to.to = search rules in
    let share = share_read b c.args.state year.year c.row-row.result.now c.row-row.ensures c.loop-to.to inside in
    let benefit = c.ticks.ensures.value ∙ benefit_read p c.args.state year.year c.move_benefits-benefits.result.now c.move_benefits-benefits.ensures c.loop-to.to few c.index-benefits-to.result c.index-benefits-to.is in
    let total = one_more b p c.args.state year.year next c.loop-to.to in
    rw (read, c.loop-to.invariant, share, benefit, ← total) (so_far_within b law p range c.args.state year.year year.early next (c.loop-to.to + 1) (λ j l. year.roomy j) (omega (arith, inside)))

pub loop-to-preserved : goal.loop-to-preserved
loop-to-preserved g c =
    let year = c.args.self.now in
    let most = (g.met.B.Basis.lawful year.basis.now).most_states in
    let b = g.B.Basis.meaning year.basis.now in
    let p = g.P.Plan.payments year.plan.now in
    let inside : c.loop-to.to < b.states = omega (arith, c.loop-to-test.true, year.fits) in
    let few : c.loop-to.to < 8 = omega (arith, inside, most) in
    let next : ℕ → ℤ = λ j. get_or year.after.now j (pos 0) in
    let read : to_z w64 (of_z w64 (next c.loop-to.to)) ≡ next c.loop-to.to = search rules in
    let share = share_read b c.args.state year.year c.row-row.result.now c.row-row.ensures c.loop-to.to inside in
    let benefit = c.ticks.ensures.value ∙ benefit_read p c.args.state year.year c.move_benefits-benefits.result.now c.move_benefits-benefits.ensures c.loop-to.to few c.index-benefits-to.result c.index-benefits-to.is in
    let kept : to_z w64 (of_z w64 c.add_move-sum.result) ≡ c.add_move-sum.result = search rules in
    let total = one_more b p c.args.state year.year next c.loop-to.to in
    kept ∙ c.add_move-sum.ensures ∙ rw (read, c.loop-to.invariant, share, benefit) (sym total)

pub returns-clause-value : goal.returns-clause-value
returns-clause-value g c =
    let year = c.args.self.now in
    let law = g.met.B.Basis.lawful year.basis.now in
    let range = g.met.P.Plan.bounded year.plan.now in
    let b = g.B.Basis.meaning year.basis.now in
    let p = g.P.Plan.payments year.plan.now in
    let next : ℕ → ℤ = λ j. get_or year.after.now j (pos 0) in
    let all : c.loop-to.to ≡ b.states = omega (arith, c.loop-to-test.false, c.loop-to.auto.to-end, year.fits) in
    let kept : to_z w64 (of_z w64 c.round_near_mean.result) ≡ c.round_near_mean.result = search rules in
    kept ∙ c.round_near_mean.ensures
    ∙ ap rounded_mean (c.loop-to.invariant ∙ ap (so_far b p c.args.state year.year next) all)
    ∙ sym (joined_is b law p range c.args.state year.year 4580000000000 next year.early year.roomy (omega arith))

pub returns-clause-range : goal.returns-clause-range
returns-clause-range g c =
    let year = c.args.self.now in
    let law = g.met.B.Basis.lawful year.basis.now in
    let range = g.met.P.Plan.bounded year.plan.now in
    let b = g.B.Basis.meaning year.basis.now in
    let p = g.P.Plan.payments year.plan.now in
    let next : ℕ → ℤ = λ j. get_or year.after.now j (pos 0) in
    let all : c.loop-to.to ≡ b.states = omega (arith, c.loop-to-test.false, c.loop-to.auto.to-end, year.fits) in
    let kept : to_z w64 (of_z w64 c.round_near_mean.result) ≡ c.round_near_mean.result = search rules in
    let is : to_z w64 (of_z w64 c.round_near_mean.result) ≡ expected b p c.args.state year.year next =
    kept ∙ c.round_near_mean.ensures ∙ ap rounded_mean (c.loop-to.invariant ∙ ap (so_far b p c.args.state year.year next) all) in
    rw is (within_more (omega arith) (expected_within b law p range c.args.state year.year 4580000000000 next year.early year.roomy))

pub round_near_mean-requires : goal.round_near_mean-requires
round_near_mean-requires g c =
    let year = c.args.self.now in
    let law = g.met.B.Basis.lawful year.basis.now in
    let range = g.met.P.Plan.bounded year.plan.now in
    let b = g.B.Basis.meaning year.basis.now in
    let p = g.P.Plan.payments year.plan.now in
    let next : ℕ → ℤ = λ j. get_or year.after.now j (pos 0) in
    rw c.loop-to.invariant (so_far_within b law p range c.args.state year.year year.early next c.loop-to.to (λ j l. year.roomy j) (omega (arith, c.loop-to.auto.to-end, year.fits)))
