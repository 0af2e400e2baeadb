use Rattle.std.proofs.Common.{◌≡◌, rules, refl, sym, subst, ◌∙◌, pos, Some, None, w64, to_z, of_z}
use Rattle.basis.specs.TransitionTables.{transition_table}
use Rattle.plan.specs.Endowments.{endowment}
use Rattle.contract.specs.Cases.{IsIssued, terms_at}
use Rattle.contract.specs.Standings.{NotIssued, issued}
use Rattle.desk.specs.Serving.{done}
use Rattle.desk.specs.Sessions.{issues_none}
use Rattle.desk.proofs.Serving.{issued_as}
use Rattle.desk.proofs.serve.issue_endowment.Goals as goal

pub returns-in-Ok : goal.returns-in-Ok
returns-in-Ok c d same =
    let whole : to_z w64 (of_z w64 c.args.deposit) ≡ c.args.deposit = Prim.search rules in
    let made : IsIssued c.args.basis.now c.args.plan 0 (pos d) c.in-Ok.field-0 = subst (λ z. IsIssued c.args.basis.now c.args.plan 0 z c.in-Ok.field-0) (whole ∙ sym same) c.in-Ok.ensures.answer in
    let x = terms_at (endowment c.args.plan) 0 (pos d) c.in-Ok.field-0.premium.ticks in
    let reserve : to_z w64 (of_z w64 c.in-Ok.field-0.reserve) ≡ c.in-Ok.field-0.reserve = Prim.search rules in
    let result : to_z w64 (of_z w64 c.in-Ok.field-0.opening_result) ≡ c.in-Ok.field-0.opening_result = Prim.search rules in
    (Some (issued (transition_table c.args.basis.now) x), done (issued_as c.args.basis.now c.args.spot c.args.plan.sum.ticks c.args.plan.term c.args.plan.paying_years d x _ _ _ refl made.issued_at.terms made.issued_at.priced (Prim.search rules) (reserve ∙ made.reserve) (result ∙ made.opening)), (made.same_basis, made.stands))

pub returns-in-Err : goal.returns-in-Err
returns-in-Err c d same =
    let b = transition_table c.args.basis.now in
    let whole : to_z w64 (of_z w64 c.args.deposit) ≡ c.args.deposit = Prim.search rules in
    let refused : NotIssued b (endowment c.args.plan) 0 (pos d) c.in-Err.fault = subst (λ z. NotIssued b (endowment c.args.plan) 0 z c.in-Err.fault) (whole ∙ sym same) c.in-Err.ensures.answer in
    rw c.refusal.ensures (None, done (issues_none refused), tt)
