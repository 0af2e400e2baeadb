use Rattle.std.proofs.Common.{refl, rules}
use Rattle.contract.specs.ContractStates.{basis_of, standing}
use Rattle.contract.proofs.Entries.{span_there}
use Rattle.contract.proofs.Promised.{promised_in_the_span}
use Rattle.contract.proofs.contract.Contract.span.Goals as goal

pub returns-clause-entry : goal.returns-clause-entry
returns-clause-entry g c = record { same_basis = refl; entry = span_there (basis_of c.args.self.now) (standing c.args.self.now) _ (Prim.search rules) }

pub returns-clause-promise : goal.returns-clause-promise
returns-clause-promise g c = promised_in_the_span (basis_of c.args.self.now) (g.met.B.Basis.lawful c.args.self.now.basis.now)
