use Rattle.std.proofs.Common.{sym}
use Rattle.units.proofs.Rules.{words_of_no_rule}
use Rattle.units.proofs.fault_text.words.Goals as goal

pub returns-in-Err : goal.returns-in-Err
returns-in-Err c = sym (words_of_no_rule _ c.in-Err.ensures.1)
