use Rattle.std.proofs.Common.{◌≡◌, ◌*◌, ◌≤◌, take, pos}
use Rattle.units.specs.Columns.{AllBelow}
use Rattle.units.specs.Ranges.{million}
use Rattle.units.specs.Sums.{int_sum_by}
use Rattle.basis.proofs.table.rows.is_lawful.Given as goal

abbrev pub invariant-loop-share : goal.invariant-loop-share
invariant-loop-share l =
    AllBelow l.share-index (pos 0) (pos million) l.shares
    × (pos l.sum ≡ int_sum_by (λ z. z) (take l.share-index l.shares))
    × (l.sum ≤ l.share-index * million)
