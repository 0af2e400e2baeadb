use Rattle.std.proofs.Common.{◌≡◌, ◌≤◌, pos, w64, to_z, rules}
use Rattle.units.specs.Ranges.{limit}
use Rattle.sheet.specs.Fields.{bytes_of}
use Rattle.sheet.specs.Numerals.{Writes}
use Rattle.desk.specs.Commands.{issue}
use Rattle.desk.proofs.Made.{issue_unbroken, issue_made}
use Rattle.desk.proofs.command.fields.issue.Goals as goal

pub returns : goal.returns
returns c =
    let s = c.in_ok-s.s in
    let k = c.in_ok-k.k in
    let g = c.in_ok-g.g in
    let d = c.in_ok-deposit.field-0 in
    let ws : Writes (bytes_of c.args.sum) c.in_ok-s.s = search rules in
    let wk : Writes (bytes_of c.args.term) c.in_ok-k.k = search rules in
    let wg : Writes (bytes_of c.args.paying_years) c.in_ok-g.g = search rules in
    let wd : Writes (bytes_of c.args.deposit) c.in_ok-deposit.field-0 = search rules in
    let p = c.in_ok-plan.ensures.1.0 in
    let most : c.in_ok-deposit.field-0 ≤ limit = search rules in
    let same : to_z w64 c.in_ok-deposit.field-0 ≡ pos c.in_ok-deposit.field-0 = search rules in
    (issue_unbroken c.args.years c.args.spot _ _ _ _ s k g d ws wk wg wd p most, (issue s k g d, rw same (issue_made c.args.years _ _ _ _ s k g d c.in_ok-plan.plan ws wk wg wd p most c.in_ok-plan.ensures.1.1)))
