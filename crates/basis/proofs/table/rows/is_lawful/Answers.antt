use Rattle.std.proofs.Common.{pos, arith, rules}
use borrow.Author.Differences.{ints}
use Rattle.units.proofs.Sums.{int_sum_by_more}
use Rattle.basis.proofs.table.rows.is_lawful.Goals as goal

pub loop-share-preserved : goal.loop-share-preserved
loop-share-preserved c =
    let more = int_sum_by_more (λ z. z) c.args.shares.now c.loop-share.share-index (pos 0) c.loop-share-test.true in
    (search rules, omega (arith, ints, more, c.loop-share.invariant.1), omega (arith, ints, c.loop-share.invariant.2))
