use Rattle.std.proofs.Common.{◌≡◌, ◌≤◌, ◌*◌, ◌^◌, sum, take}
use Rattle.sheet.proofs.reader.end.total.Given as goal

abbrev pub invariant-loop-share : goal.invariant-loop-share
invariant-loop-share l = (l.total ≡ sum (take l.share-index l.row)) × (l.total ≤ l.share-index * 2 ^ 32)
