use Rattle.std.proofs.Common.{rules, ◌≡◌, pos, refl, ap, subst, unsigned_abs}
use Rattle.std.proofs.lemmas.Int.{to_z-of_z}
use Rattle.plan.specs.PaymentTables.{payment_table}
use Rattle.valuation.specs.Courses.{Writes, Refuses}
use Rattle.c_interface.specs.Columns.{basis_of, plan_of}
use Rattle.c_interface.specs.Outcomes.{unfit_premiums, no_tables, done, course_written, course_refused}
use Rattle.c_interface.proofs.courses.answer_course.Goals as goal

pub returns-in_default : goal.returns-in_default
returns-in_default c = unfit_premiums refl tt (simp (to_z-of_z, c.ranges.premium) at c.in_default.ensures) refl

pub returns-in-Ok-course : goal.returns-in-Ok-course
returns-in-Ok-course c =
    let made = c.in-Ok.ensures.1 in
    let ticks : pos c.in-Some.premium.ticks ≡ c.args.premium = simp (to_z-of_z, c.ranges.premium) at c.in-Some.ensures in
    let on_basis = subst (λ b. Writes b (payment_table c.in-Ok.tables.plan) c.in-Some.premium.ticks c.args.year c.args.column.now c.course.new.column) made.basis c.in-Ok-course.ensures in
    let on_plan = subst (λ p. Writes (basis_of c.args.columns.now) p c.in-Some.premium.ticks c.args.year c.args.column.now c.course.new.column) made.plan on_basis in
    let written = subst (λ p. Writes (basis_of c.args.columns.now) (plan_of c.args.columns.now) p c.args.year c.args.column.now c.course.new.column) (ap unsigned_abs ticks) on_plan in
    done tt (search rules) c.in-Ok.ensures.0 made.fit (course_written refl written)

pub returns-in-Ok : goal.returns-in-Ok
returns-in-Ok c =
    let refused = subst (λ b. Refuses b c.args.year c.args.column.now c.course.new.column c.in-Err-course.fault) c.in-Ok.ensures.1.basis c.in-Err-course.ensures in
    done tt (search rules) c.in-Ok.ensures.0 c.in-Ok.ensures.1.fit (course_refused c.in-Err-course.fault refl refused)

pub returns : goal.returns
returns c = no_tables tt (search rules) c.in-Err.ensures refl
