use Rattle.std.proofs.Common.{rules}
use Rattle.contract.specs.ContractStates.{basis_of, standing}
use Rattle.contract.proofs.Entries.{left_there}
use Rattle.contract.proofs.contract.Contract.leave.Goals as goal

pub returns-clause-leaves : goal.returns-clause-leaves
returns-clause-leaves g c = left_there (basis_of c.args.self) (standing c.args.self) _ _ (Prim.search rules) (Prim.search rules)
