use Rattle.std.proofs.Common.{◌≡◌, rules, sym, subst, ◌∙◌, None, w64, to_z, of_z}
use Rattle.units.specs.Faults.{text_fault}
use Rattle.units.specs.declared.fault.Layer.TheVariants.{Sheet as Whole}
use Rattle.desk.specs.Meanings.{Means}
use Rattle.desk.specs.Serving.{CarriesOut, misplaced}
use Rattle.desk.specs.Sessions.{told_at}
use Rattle.desk.specs.declared.command.Command.TheVariants as code_of
use Rattle.desk.proofs.Serving.{issue_meant, needs_one}
use Rattle.desk.proofs.serve.begin.Goals as goal

pub returns-in-Issue : goal.returns-in-Issue
returns-in-Issue c d means =
    let asks : c.args.command ≡ code_of.Issue c.in-Issue.plan c.in-Issue.deposit = Prim.search rules in
    let whole : to_z w64 (of_z w64 c.in-Issue.deposit) ≡ c.in-Issue.deposit = Prim.search rules in
    issue_meant (λ x. CarriesOut c.args.basis.now c.args.spot None x c.issue_endowment.result) d c.in-Issue.plan c.in-Issue.deposit (subst (λ x. Means x d) asks means) (λ n is. c.issue_endowment.ensures n (is ∙ sym whole))

pub returns-in_default : goal.returns-in_default
returns-in_default c d means =
    let told : c.refusal.result ≡ told_at c.args.spot (text_fault 13 Whole c.args.spot.line c.args.spot.offset) = Prim.search rules in
    rw told (None, misplaced (needs_one c.args.command d means c.in_default.not-Issue), tt)
