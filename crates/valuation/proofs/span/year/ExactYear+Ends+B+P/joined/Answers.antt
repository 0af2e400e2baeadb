use Rattle.std.proofs.Common.{◌≡◌, ℕ, suc, ◌+◌, ◌-◌, ◌<◌, ◌≤◌, List, map, get_or, pos, Some, ap, ◌∙◌, arith}
use Rattle.std.specs.List.{range_with_len}
use Rattle.valuation.specs.declared.span.ends.Ends.{Ends}
use Rattle.valuation.specs.SpanOperations.{span, nought, possible, hull, widest}
use Rattle.valuation.proofs.Hulls.{hull_with, hull_counted, hull_skipped, hull_ended, widest_within}
use Rattle.valuation.proofs.RowReads.{row_length, share_read, benefit_read}
use Rattle.valuation.proofs.span.year.ExactYear+Ends+B+P.joined.Goals as goal
use Rattle.valuation.proofs.span.year.ExactYear+Ends+B+P.joined.Goals.{then-row-to-gt0, else-row-to-gt0}

pub bounds-row-to : goal.bounds-row-to
bounds-row-to g c =
    let b = g.B.Basis.meaning c.args.self.now.basis.now in
    omega (arith, c.loop-to-test.true, c.args.self.now.fits, row_length b c.args.state c.args.self.now.year c.row-row.result.now c.row-row.ensures)

pub loop-to-preserved : goal.loop-to-preserved
loop-to-preserved g c =
    let year = c.args.self.now in
    let b = g.B.Basis.meaning year.basis.now in
    let p = g.P.Plan.payments year.plan.now in
    let to : ℕ = c.loop-to.to in
    let so_far = c.loop-to.hull in
    let share : ℕ → ℕ = λ j. b.share c.args.state j year.year in
    let follows : ℕ → Ends = λ j. span.add (get_or year.after.now j nought) (pos (p.move_benefit c.args.state j year.year)) in
    let later : List ℕ = range_with_len (to + 1) (b.states - (to + 1)) in
    let inside : to < b.states = omega (arith, c.loop-to-test.true, year.fits) in
    let left : suc (b.states - (to + 1)) ≡ b.states - to = omega (arith, inside) in
    let read = share_read b c.args.state year.year c.row-row.result.now c.row-row.ensures to inside in
    let longer = ap (λ n. hull_with so_far (possible (map share (range_with_len to n)) (map follows (range_with_len to n)))) left ∙ c.loop-to.invariant.0 in
    elim c.if-row-to-gt0.branch [
      | then-row-to-gt0 w ↦
          let few : to < 8 = omega (arith, inside, (g.met.B.Basis.lawful year.basis.now).most_states) in
          let benefit = w.ticks.ensures.value ∙ benefit_read p c.args.state year.year c.move_benefits-benefits.result.now c.move_benefits-benefits.ensures to few w.index-benefits-to.result w.index-benefits-to.is in
          let ends : w.raised-ends.result ≡ follows to = w.raised-ends.ensures.value ∙ ap (λ n. span.add (get_or year.after.now to nought) (pos n)) benefit in
          let wider : c.if-row-to-gt0.hull ≡ Some (widest so_far (follows to)) = w.hull-is ∙ ap (λ x. Some x) (w.widened_from.ensures ∙ ap (widest so_far) ends) in
          let some : 0 < share to = omega (arith, w.if-row-to-gt0.true, read) in (
            ap (λ h. hull_with h (possible (map share later) (map follows later))) wider
                ∙ hull_counted so_far (share to) (follows to) (map share later) (map follows later) some
                ∙ longer,
            rw (w.hull-is, w.widened_from.ensures) (widest_within 4590000000000 so_far w.raised-ends.result c.loop-to.invariant.1 w.raised-ends.ensures.range),
          )
      | else-row-to-gt0 w ↦
          let none : share to ≤ 0 = omega (arith, w.if-row-to-gt0.false, read) in (
            ap (λ h. hull_with h (possible (map share later) (map follows later))) w.hull-is
                ∙ hull_skipped so_far (share to) (follows to) (map share later) (map follows later) none
                ∙ longer,
            rw w.hull-is c.loop-to.invariant.1,
          )
    ]

pub returns-clause-value : goal.returns-clause-value
returns-clause-value g c =
    let year = c.args.self.now in
    let b = g.B.Basis.meaning year.basis.now in
    let p = g.P.Plan.payments year.plan.now in
    let share : ℕ → ℕ = λ j. b.share c.args.state j year.year in
    let follows : ℕ → Ends = λ j. span.add (get_or year.after.now j nought) (pos (p.move_benefit c.args.state j year.year)) in
    let all : 0 ≡ b.states - c.loop-to.to = omega (arith, c.loop-to-test.false, year.fits) in
    let whole : b.states - 0 ≡ b.states = omega arith in
    c.unwrap_or.ensures ∙ hull_ended c.loop-to.hull
    ∙ ap (λ n. hull_with c.loop-to.hull (possible (map share (range_with_len c.loop-to.to n)) (map follows (range_with_len c.loop-to.to n)))) all
    ∙ c.loop-to.invariant.0
    ∙ ap (λ n. hull (possible (map share (range_with_len 0 n)) (map follows (range_with_len 0 n)))) whole
