use Rattle.std.proofs.Common.{◌≡◌, ◌≤◌, ◌*◌, ◌++◌, take, drop, length, ◌∙◌, arith, rules}
use Rattle.std.proofs.lemmas.List.{length-take-le}
use Rattle.valuation.specs.Courses.{course_length, Writes}
use Rattle.valuation.proofs.Courses.{writes}
use Rattle.valuation.proofs.course.course.Goals as goal

pub returns-then-year-years : goal.returns-then-year-years
returns-then-year-years g c =
    let b = g.B.Basis.meaning c.args.basis.now in
    let p = g.P.Plan.payments c.args.plan.now in
    let size : c.saturating_sub.result * c.states.result ≡ course_length b c.args.year = search rules in
    let fits : course_length b c.args.year ≤ length c.args.column.now = search rules in
    let part : length (take (c.saturating_sub.result * c.states.result) c.args.column.now) ≡ course_length b c.args.year = length-take-le _ c.args.column.now (omega (arith, size, fits)) ∙ size in
    let written : Writes b p c.args.premium.ticks c.args.year c.args.column.now (c.back_to.new.rows ++ drop (c.saturating_sub.result * c.states.result) c.args.column.now) =
    rw (c.back_to.ensures.rows part, size) (writes b (g.met.B.Basis.lawful c.args.basis.now) p (g.met.P.Plan.bounded c.args.plan.now) c.args.premium.ticks c.args.premium.range c.args.year c.args.column.now fits) in
    search rules
