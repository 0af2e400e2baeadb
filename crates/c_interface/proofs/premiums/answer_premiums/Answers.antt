use Rattle.std.proofs.Common.{rules, refl, subst}
use Rattle.plan.specs.PaymentTables.{payment_table}
use Rattle.c_interface.specs.Columns.{basis_of}
use Rattle.c_interface.specs.Outcomes.{PremiumsFor, no_tables, done}
use Rattle.c_interface.proofs.premiums.answer_premiums.Goals as goal

pub returns-in-Ok : goal.returns-in-Ok
returns-in-Ok c =
    let on_basis = subst (λ b. PremiumsFor b (payment_table c.in-Ok.tables.plan) c.args.state c.args.year c.args.bounds.now c.fill_premiums.new.premiums) c.in-Ok.ensures.1.basis c.fill_premiums.ensures in
    let written = subst (λ p. PremiumsFor (basis_of c.args.columns.now) p c.args.state c.args.year c.args.bounds.now c.fill_premiums.new.premiums) c.in-Ok.ensures.1.plan on_basis in
    done (search rules) tt c.in-Ok.ensures.0 c.in-Ok.ensures.1.fit (record { told = refl; what = (search rules, written) })

pub returns-in-Err : goal.returns-in-Err
returns-in-Err c = no_tables (search rules) tt c.in-Err.ensures refl
