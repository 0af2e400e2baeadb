use Rattle.std.proofs.Common.{◌≡◌, ◌++◌, rules}
use Rattle.std.specs.String.{string_bytes}
use Rattle.basis.specs.TransitionTables.{transition_table}
use Rattle.plan.specs.Endowments.{endowment}
use Rattle.sheet_reserves.specs.Pages.{row}
use Rattle.sheet_reserves.proofs.Cells.{cell_written}
use Rattle.sheet_reserves.proofs.page.write_rows.Goals as goal

pub loop-year-preserved : goal.loop-year-preserved
loop-year-preserved c =
    let line = row (transition_table c.args.basis.now) (endowment c.args.plan.now) c.args.premium.ticks in
    let writes : string_bytes c.write_row.new.out ≡ string_bytes c.loop-year.out ++ line c.loop-year.year = Prim.search rules in
    cell_written line c.loop-year.year (string_bytes c.args.out.now) (string_bytes c.loop-year.out) (string_bytes c.write_row.new.out) c.loop-year.invariant writes
