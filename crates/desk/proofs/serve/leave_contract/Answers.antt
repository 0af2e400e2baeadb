use Rattle.std.proofs.Common.{◌≡◌, rules, true, None, subst, w64, to_z, of_z}
use Rattle.contract.specs.ContractStates.{basis_of, ledger_of, leaving_told}
use Rattle.contract.specs.Runs.{Ends, Left}
use Rattle.contract.specs.Steps.{books_after_leaving}
use Rattle.desk.specs.Serving.{done}
use Rattle.desk.specs.Sessions.{leaves}
use Rattle.desk.proofs.serve.leave_contract.Goals as goal

pub returns : goal.returns
returns c l same =
    let told = leaving_told c.leave-paid.result in
    let paid : to_z w64 (of_z w64 c.leave-paid.result.paid) ≡ c.leave-paid.result.paid = Prim.search rules in
    let result : to_z w64 (of_z w64 c.leave-paid.result.result) ≡ c.leave-paid.result.result = Prim.search rules in
    let ends : Ends (basis_of c.args.contract) l true (Left told (books_after_leaving l.books told)) =
    subst (λ s. Ends (basis_of c.args.contract) (ledger_of s l.books) true (Left told (books_after_leaving l.books told))) same (c.leave-paid.ensures.leaves l.books) in
    rw (paid, result) (None, done (leaves {k = told} ends), tt)
