use Rattle.std.proofs.Common.{◌≡◌, pos}
use Rattle.std.specs.Slice.Iter.{iter_rest}
use Rattle.std.specs.Iterator.Adapters.{zip_first, zip_second}
use Rattle.valuation.specs.Means.{weighted}
use Rattle.valuation.proofs.mean.MeanValuation.join.Given as goal

-- what is still to be added brings the sum to the whole
abbrev pub invariant-loop-share : goal.invariant-loop-share
invariant-loop-share l = weighted l.sum (iter_rest (zip_first l.share-iterator)) (iter_rest (zip_second l.share-iterator)) ≡ weighted (pos 0) l.row l.following
