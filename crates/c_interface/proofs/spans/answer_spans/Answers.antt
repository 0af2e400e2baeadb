use Rattle.std.proofs.Common.{refl, ◌∙◌, subst}
use Rattle.plan.specs.PaymentTables.{payment_table}
use Rattle.c_interface.specs.Columns.{basis_of}
use Rattle.c_interface.specs.Outcomes.{SpansAt, unfit_premiums, no_tables, done}
use Rattle.c_interface.proofs.spans.answer_spans.Goals as goal

pub returns-then-not-all_premiums : goal.returns-then-not-all_premiums
returns-then-not-all_premiums c =
    unfit_premiums refl (c.if-least-premiums.false, c.if-greatest-premiums.false)
    (λ all. cc (c.if-not-all_premiums.ensures.1 all)) (refl, refl)

pub fill_spans-requires-clause-premiums : goal.fill_spans-requires-clause-premiums
fill_spans-requires-clause-premiums c = c.if-not-all_premiums.ensures.0 refl

pub returns-in-Ok : goal.returns-in-Ok
returns-in-Ok c =
    let made = c.in-Ok.ensures.1 in
    let on_basis = subst (λ b. SpansAt b (payment_table c.in-Ok.tables.plan) c.args.state c.args.year c.args.premiums.now c.fill_spans.new.least c.fill_spans.new.greatest) made.basis c.fill_spans.ensures in
    let on_plan = subst (λ p. SpansAt (basis_of c.args.columns.now) p c.args.state c.args.year c.args.premiums.now c.fill_spans.new.least c.fill_spans.new.greatest) made.plan on_basis in
    done (c.if-least-premiums.false, c.if-greatest-premiums.false) (c.if-not-all_premiums.ensures.0 refl) c.in-Ok.ensures.0 made.fit (record {
      told = refl;
      what = ((c.fill_spans.auto.least ∙ c.if-least-premiums.false, c.fill_spans.auto.greatest ∙ c.if-greatest-premiums.false), on_plan);
    })

pub returns-in-Err : goal.returns-in-Err
returns-in-Err c =
    no_tables (c.if-least-premiums.false, c.if-greatest-premiums.false)
    (c.if-not-all_premiums.ensures.0 refl) c.in-Err.ensures (refl, refl)
