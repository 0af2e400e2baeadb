use Rattle.std.proofs.Common.{◌≡◌, rules, subst, Some, None}
use Rattle.basis.specs.contracts.table.basis.TransitionTableBasis.TheImpl.{ghosts as table_ghosts}
use Rattle.plan.specs.contracts.endowment.plan.EndowmentPlan.TheImpl.{ghosts as endowment_ghosts}
use Rattle.desk.specs.Serving.{Keeps, CarriesOut}
use Rattle.desk.proofs.Serving.{none_kept, some_kept}
use Rattle.desk.proofs.serve.serve.Goals as goal

pub returns-in-None : goal.returns-in-None
returns-in-None c d kept means keeps =
    let holds : c.args.held ≡ None = Prim.search rules in
    none_kept table_ghosts endowment_ghosts c.args.basis.now (λ k. CarriesOut c.args.basis.now c.args.spot k d c.begin.result) kept (subst (λ h. Keeps c.args.basis.now h kept) holds keeps) (c.begin.ensures d means)

pub returns-in-Some : goal.returns-in-Some
returns-in-Some c d kept means keeps =
    let holds : c.args.held ≡ Some c.in-Some.contract = Prim.search rules in
    some_kept table_ghosts endowment_ghosts c.args.basis.now (λ k. CarriesOut c.args.basis.now c.args.spot k d c.go_on.result) kept c.in-Some.contract (subst (λ h. Keeps c.args.basis.now h kept) holds keeps)
    (λ l on stands. subst (λ y. CarriesOut y c.args.spot (Some l) d c.go_on.result) on (c.go_on.ensures d l means stands))
