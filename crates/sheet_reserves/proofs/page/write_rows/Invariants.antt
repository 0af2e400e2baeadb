use Rattle.std.proofs.Common.{◌≡◌, ◌++◌, flat_map}
use Rattle.std.specs.List.{range_with_len}
use Rattle.std.specs.String.{string_bytes}
use Rattle.basis.specs.TransitionTables.{transition_table}
use Rattle.plan.specs.Endowments.{endowment}
use Rattle.sheet_reserves.specs.Pages.{row}
use Rattle.sheet_reserves.proofs.page.write_rows.Given as goal

abbrev pub invariant-loop-year : goal.invariant-loop-year
invariant-loop-year l =
    string_bytes l.out ≡ string_bytes l.fn.out ++ flat_map (row (transition_table l.basis) (endowment l.plan) l.premium.ticks) (range_with_len 0 l.year)
