use Rattle.std.proofs.Common.{rules, refl}
use Rattle.c_interface.specs.Columns.{refused}
use Rattle.c_interface.proofs.columns.Columns.tables.Goals as goal

pub returns-in-Err : goal.returns-in-Err
returns-in-Err c = let told = c.in-Err.ensures in refused c.in-Err.fault (search rules) refl told.numbers.0 told.numbers.1 told.outcome
