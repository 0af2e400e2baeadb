use Rattle.std.proofs.Common.{◌≡◌, ◌++◌, rules, decimal}
use Rattle.std.specs.String.{string_bytes}
use Rattle.basis.specs.TransitionTables.{transition_table}
use Rattle.plan.specs.Endowments.{endowment}
use Rattle.sheet_reserves.specs.Pages.{at_right, entry}
use Rattle.sheet_reserves.proofs.Cells.{cell_written}
use Rattle.sheet_reserves.proofs.page.write_row.Goals as goal

pub loop-state-preserved : goal.loop-state-preserved
loop-state-preserved c =
    let cell = entry (transition_table c.args.basis.now) (endowment c.args.plan.now) c.args.premium.ticks c.args.year in
    let before = string_bytes c.args.out.now ++ at_right 4 (decimal c.args.year) in
    let writes : string_bytes c.write_at_right-in-loop-state.new.out ≡ string_bytes c.loop-state.out ++ cell c.loop-state.state = Prim.search rules in
    cell_written cell c.loop-state.state before (string_bytes c.loop-state.out) (string_bytes c.write_at_right-in-loop-state.new.out) c.loop-state.invariant writes
