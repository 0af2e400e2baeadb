use Rattle.std.proofs.Common.{refl, rules}
use Rattle.contract.specs.ContractStates.{basis_of, standing}
use Rattle.contract.proofs.Entries.{course_there, no_course_there}
use Rattle.contract.proofs.Promised.{promised_in_the_mean}
use Rattle.contract.proofs.contract.Contract.course.Goals as goal

pub returns-in-Ok-clause-entry : goal.returns-in-Ok-clause-entry
returns-in-Ok-clause-entry g c = record { same_basis = refl; entry = course_there (basis_of c.args.self.now) (standing c.args.self.now) c.args.column.now c.course.new.column (Prim.search rules) }

pub returns-in-Ok-clause-promise : goal.returns-in-Ok-clause-promise
returns-in-Ok-clause-promise g c = promised_in_the_mean (basis_of c.args.self.now) (g.met.B.Basis.lawful c.args.self.now.basis.now)

pub returns-in-Err-clause-entry : goal.returns-in-Err-clause-entry
returns-in-Err-clause-entry g c = record { same_basis = refl; entry = no_course_there (basis_of c.args.self.now) (standing c.args.self.now) c.args.column.now c.course.new.column c.fault.result (Prim.search rules) (Prim.search rules) (Prim.search rules) }

pub returns-in-Err-clause-promise : goal.returns-in-Err-clause-promise
returns-in-Err-clause-promise g c = promised_in_the_mean (basis_of c.args.self.now) (g.met.B.Basis.lawful c.args.self.now.basis.now)
