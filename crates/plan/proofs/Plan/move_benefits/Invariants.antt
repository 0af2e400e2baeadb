use Rattle.std.proofs.Common.{◌≡◌, take, map}
use Rattle.std.specs.List.{range_with_len}
use Rattle.plan.proofs.Plan.move_benefits.Given as goal

-- the places so far hold what is paid for the first moves
abbrev pub invariant-loop-to : goal.invariant-loop-to
invariant-loop-to g l = map (λ amount. amount.ticks) (take l.to l.amounts) ≡ map (λ j. (g.Self.Plan.payments l.self).move_benefit l.from j l.year) (range_with_len 0 l.to)
