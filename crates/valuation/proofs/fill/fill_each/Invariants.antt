use Rattle.std.proofs.Common.{◌≡◌, ℕ, ◌<◌, map, take, length}
use Rattle.std.specs.List.{range_with_len}
use Rattle.valuation.proofs.fill.fill_each.Given as goal

-- the places so far hold what `entry` makes of them
abbrev pub invariant-loop-j : goal.invariant-loop-j
invariant-loop-j g l = (f : ℕ → g.row.T.Denot) → ((j : ℕ) (y : g.row.T.Denot) → j < length l.initial.places → goal.F-post g l.fn.entry j y → y ≡ f j) → take l.j l.places ≡ map f (range_with_len 0 l.j)
