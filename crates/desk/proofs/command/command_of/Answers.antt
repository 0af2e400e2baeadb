use Rattle.desk.proofs.Said.{every_command, told_in_line}
use Rattle.desk.proofs.Worked.{worked}
use Rattle.desk.proofs.command.command_of.Goals as goal

pub returns-clause-every_command : goal.returns-clause-every_command
returns-clause-every_command c = every_command c.args.years c.args.line c.said.result c.said.ensures

pub returns-clause-told : goal.returns-clause-told
returns-clause-told c = told_in_line c.args.years c.args.line c.said.result c.said.ensures

pub returns-clause-worked : goal.returns-clause-worked
returns-clause-worked c = worked
