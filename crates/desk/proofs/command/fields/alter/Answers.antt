use Rattle.std.proofs.Common.{rules}
use Rattle.sheet.specs.Fields.{bytes_of}
use Rattle.sheet.specs.Numerals.{Writes}
use Rattle.desk.specs.Commands.{alter}
use Rattle.desk.proofs.Made.{alter_unbroken, alter_made}
use Rattle.desk.proofs.command.fields.alter.Goals as goal

pub returns : goal.returns
returns c =
    let s = c.in_ok-number.field-0 in
    let k = c.in_ok-number-2.field-0 in
    let g = c.in_ok-number-3.field-0 in
    let ws : Writes (bytes_of c.args.sum) c.in_ok-number.field-0 = search rules in
    let wk : Writes (bytes_of c.args.term) c.in_ok-number-2.field-0 = search rules in
    let wg : Writes (bytes_of c.args.paying_years) c.in_ok-number-3.field-0 = search rules in
    let p = c.in_ok-plan.ensures.1.0 in
    (alter_unbroken c.args.years c.args.spot _ _ _ s k g ws wk wg p, (alter s k g, alter_made c.args.years _ _ _ s k g c.in_ok-plan.plan ws wk wg p c.in_ok-plan.ensures.1.1))
