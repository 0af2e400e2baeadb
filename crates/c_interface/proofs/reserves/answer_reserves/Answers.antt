use Rattle.std.proofs.Common.{refl, ◌∙◌, subst, arith}
use Rattle.c_interface.specs.Columns.{basis_of}
use Rattle.plan.specs.PaymentTables.{payment_table}
use Rattle.c_interface.specs.Outcomes.{ReservesAt, unfit_places, unfit_premiums, no_tables, done}
use Rattle.c_interface.proofs.reserves.answer_reserves.Goals as goal

pub returns-then-reserves-premiums : goal.returns-then-reserves-premiums
returns-then-reserves-premiums c = unfit_places refl c.if-reserves-premiums.true refl

pub returns-then-not-all_premiums : goal.returns-then-not-all_premiums
returns-then-not-all_premiums c =
    unfit_premiums refl (omega arith) (λ all. cc (c.if-not-all_premiums.ensures.1 all)) refl

pub fill_reserves-requires-clause-places : goal.fill_reserves-requires-clause-places
fill_reserves-requires-clause-places c = c.if-reserves-premiums.false

pub fill_reserves-requires-clause-premiums : goal.fill_reserves-requires-clause-premiums
fill_reserves-requires-clause-premiums c = c.if-not-all_premiums.ensures.0 refl

pub returns-in-Ok : goal.returns-in-Ok
returns-in-Ok c =
    let made = c.in-Ok.ensures.1 in
    let on_basis = subst (λ b. ReservesAt b (payment_table c.in-Ok.tables.plan) c.args.state c.args.year c.args.premiums.now c.fill_reserves.new.reserves) made.basis c.fill_reserves.ensures in
    let on_plan = subst (λ p. ReservesAt (basis_of c.args.columns.now) p c.args.state c.args.year c.args.premiums.now c.fill_reserves.new.reserves) made.plan on_basis in
    done c.if-reserves-premiums.false (c.if-not-all_premiums.ensures.0 refl) c.in-Ok.ensures.0 made.fit (record {
      told = refl;
      what = (c.fill_reserves.auto.reserves ∙ c.if-reserves-premiums.false, on_plan);
    })

pub returns-in-Err : goal.returns-in-Err
returns-in-Err c =
    no_tables c.if-reserves-premiums.false (c.if-not-all_premiums.ensures.0 refl) c.in-Err.ensures refl
