-- The text of the worked commands. Assumes nothing.
use Rattle.std.proofs.Common.{◌≡◌, refl}
use Rattle.std.specs.Fmt.{digits}
use Rattle.desk.specs.WorkedCommands.{worked_commands, lines_of, worked_lines}

pub worked : lines_of worked_commands ≡ worked_lines
unfolding digits
worked = refl
