use Rattle.std.proofs.Common.{◌≡◌, ℕ, ◌-◌, List, map, get_or, pos, IfSome}
use Rattle.std.specs.List.{range_with_len}
use Rattle.valuation.specs.declared.span.ends.Ends.{Ends}
use Rattle.valuation.specs.SpanOperations.{span, nought, possible, hull, EndsWithin}
use Rattle.valuation.proofs.Hulls.{hull_with}
use Rattle.valuation.proofs.span.year.ExactYear+Ends+B+P.joined.Given as goal

-- with what is still to come, the hull so far is the whole
abbrev pub invariant-loop-to : goal.invariant-loop-to
invariant-loop-to g l =
    let c = g.B.Basis.meaning l.self.basis.now in
    let p = g.P.Plan.payments l.self.plan.now in
    let share : ℕ → ℕ = λ j. c.share l.state j l.self.year in
    let follows : ℕ → Ends = λ j. span.add (get_or l.self.after.now j nought) (pos (p.move_benefit l.state j l.self.year)) in
    let rest : ℕ → List ℕ = λ j. range_with_len j (c.states - j) in
    (hull_with l.hull (possible (map share (rest l.to)) (map follows (rest l.to))) ≡ hull (possible (map share (rest 0)) (map follows (rest 0))))
    × IfSome l.hull (EndsWithin 4590000000000)
