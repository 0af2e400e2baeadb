use Rattle.std.proofs.Common.{◌≡◌, ◌++◌, map, pos, take, drop}
use Rattle.sheet.proofs.reader.fill.fill.Given as goal

abbrev pub invariant-loop-i : goal.invariant-loop-i
invariant-loop-i l = l.column ≡ map pos (take l.i l.numbers) ++ drop l.i l.initial.column
