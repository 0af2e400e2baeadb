use Rattle.std.proofs.Common.{◌/◌, ◌%◌, ◌≤◌, subst, arith, rules}
use Rattle.basis.specs.TransitionColumns.{LawfulBelow}
use Rattle.basis.proofs.Rows.{row_count, rows_by_state, first_unlawful_lem}
use Rattle.basis.proofs.table.check.Columns.check_rows.Goals as goal

pub returns-in-Some : goal.returns-in-Some
returns-in-Some c =
    let size = c.requires in
    let some : 1 ≤ c.args.self.now.states = omega (arith, size.least_states) in
    let rows = row_count _ _ _ some size.share_places in
    let found = c.in-Some.ensures in
    record {
      state = c.in-Some.row % c.args.self.now.states;
      year = c.in-Some.row / c.args.self.now.states;
      first = first_unlawful_lem _ _ _ _ some (omega (arith, found.0, rows)) found.1 found.2;
      is = search rules;
    }

pub returns-in-None : goal.returns-in-None
returns-in-None c =
    let size = c.requires in
    let some : 1 ≤ c.args.self.now.states = omega (arith, size.least_states) in
    rows_by_state _ _ _ (subst (LawfulBelow c.args.self.now.states c.args.self.now.shares.now) (row_count _ _ _ some size.share_places) c.in-None.ensures)
