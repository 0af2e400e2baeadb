use Rattle.std.proofs.Common.{◌≡◌}
use Rattle.std.specs.Slice.Iter.{iter_rest}
use Rattle.std.specs.Iterator.Adapters.{zip_first, zip_second}
use Rattle.valuation.specs.SpanOperations.{possible, hull}
use Rattle.valuation.proofs.Hulls.{hull_with}
use Rattle.valuation.proofs.span.valuation.SpanValuation.join.Given as goal

-- with what is still to come, the hull so far is the whole
abbrev pub invariant-loop-share : goal.invariant-loop-share
invariant-loop-share l = hull_with l.hull (possible (iter_rest (zip_first l.share-iterator)) (iter_rest (zip_second l.share-iterator))) ≡ hull (possible l.row l.following)
