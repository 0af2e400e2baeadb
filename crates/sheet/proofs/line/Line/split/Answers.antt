use Rattle.std.proofs.Common.{rules}
use Rattle.sheet.proofs.OwnBytes.{split_stands}
use Rattle.sheet.proofs.line.Line.split.Goals as goal

pub returns-clause-answer : goal.returns-clause-answer
returns-clause-answer c = search rules

pub returns-clause-own_bytes : goal.returns-clause-own_bytes
unfolding returns-clause-answer
returns-clause-own_bytes c = λ input at. split_stands input c.args.whole c.ok_or.result (returns-clause-answer c) at
