use Rattle.std.proofs.Common.{◌≡◌, ◌++◌, rules, codes}
use Rattle.std.specs.String.{string_bytes}
use Rattle.sheet_reserves.specs.Pages.{state_heading}
use Rattle.sheet_reserves.proofs.Cells.{cell_written}
use Rattle.sheet_reserves.proofs.page.write_heading.Goals as goal

pub loop-state-preserved : goal.loop-state-preserved
loop-state-preserved c =
    let out = string_bytes c.loop-state.out in
    let writes : string_bytes c.write_state_heading.new.out ≡ out ++ state_heading c.loop-state.state = Prim.search rules in
    cell_written state_heading c.loop-state.state (string_bytes c.args.out.now ++ codes "year") out (string_bytes c.write_state_heading.new.out) c.loop-state.invariant writes
