use Rattle.std.proofs.Common.{◌<◌, ◌≤◌, rules, length, sym, subst}
use Rattle.std.proofs.lemmas.Result.{err_from_is_err_and}
use Rattle.basis.specs.TransitionTables.{transition_table}
use Rattle.std.specs.String.{string_bytes}
use Rattle.sheet.specs.Fields.{bytes_of}
use Rattle.sheet.specs.Sheets.{basis_of}
use Rattle.sheet_reserves.specs.Outcomes.{IsRefused, too_long, no_sheet, no_premium}
use Rattle.sheet_reserves.proofs.Pages.{priced, unpriced, page_written}
use Rattle.sheet_reserves.proofs.page.page_of.Goals as goal

pub returns-then-bytes-gt-MOST_BYTES : goal.returns-then-bytes-gt-MOST_BYTES
returns-then-bytes-gt-MOST_BYTES c =
    let long : 60000 < length c.args.bytes.now = Prim.search rules in
    subst (IsRefused c.args.bytes.now) (sym c.fault.ensures) (too_long long)

pub returns-in_err-read_into : goal.returns-in_err-read_into
returns-in_err-read_into c =
    let short : length c.args.bytes.now ≤ 60000 = Prim.search rules in
    let failed = err_from_is_err_and c.from_residual-in_err-read_into.result c.from_residual-in_err-read_into.ensures.1 in
    let refused = c.in_err-read_into.ensures.answer in
    rw (failed.1, failed.2) (no_sheet short refused.0)

pub returns-in_err-premium : goal.returns-in_err-premium
returns-in_err-premium c =
    let short : length c.args.bytes.now ≤ 60000 = Prim.search rules in
    let failed = err_from_is_err_and c.from_residual-in_err-premium.result c.from_residual-in_err-premium.ensures.1 in
    let taken = c.in_ok-read_into.ensures.answer in
    let holds = c.in_ok-plan.ensures.1 in
    let none = unpriced (basis_of taken.0) (transition_table c.read_into.new.table) taken.1.basis c.in_ok-plan.plan c.years-years.result holds c.years-years.ensures c.in_err-premium.field-0.0 c.in_err-premium.ensures.least in
    rw (failed.1, failed.2) (no_premium short taken.1.sheet none)

pub returns : goal.returns
returns c =
    let short : length c.args.bytes.now ≤ 60000 = Prim.search rules in
    let table = c.read_into.new.table in
    let taken = c.in_ok-read_into.ensures.answer in
    let holds = c.in_ok-plan.ensures.1 in
    let premium = c.in_ok-premium.premium.ticks in
    record {
      sheet = taken.0;
      rest = bytes_of c.in_ok-read_into.field-0;
      premium = premium;
      fits = short;
      is_sheet = taken.1.sheet;
      least = priced (basis_of taken.0) (transition_table table) taken.1.basis c.in_ok-plan.plan c.years-years.result holds c.years-years.ensures premium c.in_ok-premium.ensures.least;
      text_is = page_written (basis_of taken.0) (transition_table table) taken.1.basis c.in_ok-plan.plan c.years-years.result holds c.years-years.ensures premium c.states.result (string_bytes c.new-out.result) (string_bytes c.write_opening.new.out) (string_bytes c.write_heading.new.out) (string_bytes c.write_rows.new.out) c.new-out.ensures.bytes c.states.ensures c.in_ok-write_opening.ensures c.in_ok-write_heading.ensures c.in_ok-write_rows.ensures;
    }
