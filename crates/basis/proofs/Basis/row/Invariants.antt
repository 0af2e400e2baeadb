use Rattle.std.proofs.Common.{◌≡◌, take, map}
use Rattle.std.specs.List.{range_with_len}
use Rattle.basis.proofs.Basis.row.Given as goal

-- the places so far hold the shares of the first moves
abbrev pub invariant-loop-to : goal.invariant-loop-to
invariant-loop-to g l = take l.to l.shares ≡ map (λ j. (g.Self.Basis.meaning l.self).share l.from j l.year) (range_with_len 0 l.to)
