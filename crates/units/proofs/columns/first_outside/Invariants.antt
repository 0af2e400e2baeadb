use Rattle.units.specs.Columns.{AllBelow}
use Rattle.units.proofs.columns.first_outside.Given as goal

abbrev pub invariant-loop-t : goal.invariant-loop-t
invariant-loop-t l = AllBelow l.t l.low l.high l.column
