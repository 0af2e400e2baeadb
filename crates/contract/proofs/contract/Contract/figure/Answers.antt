use Rattle.std.proofs.Common.{refl}
use Rattle.contract.specs.ContractStates.{basis_of, standing}
use Rattle.contract.proofs.Entries.{figure_there}
use Rattle.contract.proofs.Promised.{promised}
use Rattle.contract.proofs.contract.Contract.figure.Goals as goal

pub returns-clause-promise : goal.returns-clause-promise
returns-clause-promise g c = promised g.V.Valuation.ends (g.V.Valuation.operations c.args.valuation.now) (g.met.V.Valuation.ordered c.args.valuation.now) (basis_of c.args.self.now) (g.met.B.Basis.lawful c.args.self.now.basis.now)

pub returns-clause-turn : goal.returns-clause-turn
returns-clause-turn g c = record { same_basis = refl; turn = figure_there (basis_of c.args.self.now) (standing c.args.self.now) (g.V.Valuation.operations c.args.valuation.now) c.figure.result c.figure.ensures.value }
