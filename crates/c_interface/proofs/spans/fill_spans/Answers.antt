use Rattle.std.proofs.Common.{arith}
use Rattle.std.proofs.lemmas.Grind.{common_steps}
use Rattle.c_interface.proofs.spans.fill_spans.Goals as goal

pub loop-k-preserved : goal.loop-k-preserved
loop-k-preserved c = (grind (arith, common_steps), grind (arith, common_steps))
