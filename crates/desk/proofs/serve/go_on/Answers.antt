use Rattle.std.proofs.Common.{◌≡◌, rules, refl, subst, Some, w64, to_z, of_z}
use Rattle.units.specs.Faults.{text_fault}
use Rattle.units.specs.declared.fault.Layer.TheVariants.{Sheet as Whole}
use Rattle.desk.specs.Commands.{close}
use Rattle.desk.specs.Meanings.{Means}
use Rattle.desk.specs.Serving.{CarriesOut, misplaced}
use Rattle.desk.specs.Sessions.{told_at}
use Rattle.desk.specs.declared.command.Command.TheVariants as code_of
use Rattle.desk.proofs.Serving.{close_meant, alter_meant, leave_meant, needs_none}
use Rattle.desk.proofs.serve.go_on.Goals as goal

pub returns-in-Close : goal.returns-in-Close
returns-in-Close c d l means stands =
    let b = c.args.contract.basis.now in
    let asks : c.args.command ≡ code_of.Close c.in-Close.state c.in-Close.rate = Prim.search rules in
    let whole : to_z w64 (of_z w64 c.in-Close.rate) ≡ c.in-Close.rate = Prim.search rules in
    close_meant (λ x. CarriesOut b c.args.spot (Some l) x c.close_year.result) d c.in-Close.state c.in-Close.rate (subst (λ x. Means x d) asks means) (subst (λ z. CarriesOut b c.args.spot (Some l) (close c.in-Close.state z) c.close_year.result) whole (c.close_year.ensures l stands))

pub returns-in-Alter : goal.returns-in-Alter
returns-in-Alter c d l means stands =
    let asks : c.args.command ≡ code_of.Alter c.in-Alter.plan = Prim.search rules in
    alter_meant (λ x. CarriesOut c.args.contract.basis.now c.args.spot (Some l) x c.alter_plan.result) d c.in-Alter.plan (subst (λ x. Means x d) asks means) (c.alter_plan.ensures l stands)

pub returns-in-Leave : goal.returns-in-Leave
returns-in-Leave c d l means stands =
    let asks : c.args.command ≡ code_of.Leave = Prim.search rules in
    leave_meant (λ x. CarriesOut c.args.contract.basis.now c.args.spot (Some l) x c.leave_contract.result) d (subst (λ x. Means x d) asks means) (c.leave_contract.ensures l stands)

pub returns-in-Issue : goal.returns-in-Issue
returns-in-Issue c d l means stands =
    let asks : c.args.command ≡ code_of.Issue c.in-Issue.plan c.in-Issue.deposit = Prim.search rules in
    let told : c.refusal.result ≡ told_at c.args.spot (text_fault 13 Whole c.args.spot.line c.args.spot.offset) = Prim.search rules in
    rw told (Some l, misplaced (needs_none d c.in-Issue.plan c.in-Issue.deposit (subst (λ x. Means x d) asks means)), (refl, stands))
