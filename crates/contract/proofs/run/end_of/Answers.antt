use Rattle.std.proofs.Common.{refl, sym, subst}
use Rattle.contract.specs.ContractStates.{basis_of, standing, ledger_of, leaving_told}
use Rattle.contract.specs.Runs.{Ends, Stands, Left, stands}
use Rattle.contract.specs.Steps.{books_after_leaving}
use Rattle.contract.proofs.run.end_of.Goals as goal

pub returns-then-leaves : goal.returns-then-leaves
returns-then-leaves g c = λ books.
    let told = leaving_told c.leave.result in
    (Left told (books_after_leaving books told), subst (λ b. Ends (basis_of c.args.contract) (ledger_of (standing c.args.contract) books) b (Left told (books_after_leaving books told))) (sym c.if-leaves.true) (c.leave.ensures.leaves books), refl)

pub returns-else-leaves : goal.returns-else-leaves
returns-else-leaves g c = λ books.
    (Stands (ledger_of (standing c.args.contract) books), subst (λ b. Ends (basis_of c.args.contract) (ledger_of (standing c.args.contract) books) b (Stands (ledger_of (standing c.args.contract) books))) (sym c.if-leaves.false) stands, (refl, refl))
