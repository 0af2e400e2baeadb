use Rattle.std.proofs.Common.{arith}
use Rattle.std.proofs.lemmas.List.{take_more_set}
use Rattle.std.proofs.lemmas.List.FromFn.{map-range_with_len_more}
use Rattle.valuation.proofs.fill.fill_each.Goals as goal

pub loop-j-preserved : goal.loop-j-preserved
loop-j-preserved g c f is = grind (arith, take_more_set, map-range_with_len_more, is _ _ (omega arith) c.entry.ensures, c.loop-j.invariant f is)
