use Rattle.std.proofs.Common.{rules}
use Rattle.sheet.proofs.Numbers.{written_passes, unwritten_fails}
use Rattle.sheet.proofs.part.Part.number.Goals as goal

pub returns-clause-rule : goal.returns-clause-rule
returns-clause-rule c = search (rules, written_passes c.args.self.bytes.now, unwritten_fails c.args.self.bytes.now)
