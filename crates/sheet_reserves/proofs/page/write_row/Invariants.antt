use Rattle.std.proofs.Common.{◌≡◌, ◌++◌, decimal, flat_map}
use Rattle.std.specs.List.{range_with_len}
use Rattle.std.specs.String.{string_bytes}
use Rattle.basis.specs.TransitionTables.{transition_table}
use Rattle.plan.specs.Endowments.{endowment}
use Rattle.sheet_reserves.specs.Pages.{at_right, entry}
use Rattle.sheet_reserves.proofs.page.write_row.Given as goal

abbrev pub invariant-loop-state : goal.invariant-loop-state
invariant-loop-state l =
    string_bytes l.out ≡ (string_bytes l.fn.out ++ at_right 4 (decimal l.year)) ++ flat_map (entry (transition_table l.basis) (endowment l.plan) l.premium.ticks l.year) (range_with_len 0 l.state)
