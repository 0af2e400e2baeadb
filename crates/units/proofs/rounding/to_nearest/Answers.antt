use Rattle.std.proofs.Common.{◌/◌, pos, ◌≤ℤ◌, ◌<ℤ◌, rules}
use Rattle.std.specs.Int.{int_rem_euclid}
use borrow.Author.Differences.{ints}
use Rattle.units.proofs.Rounded.{rounded_down, rounded_up}
use Rattle.units.proofs.rounding.to_nearest.Goals as goal

pub returns-then-rem_euclid-parts : goal.returns-then-rem_euclid-parts
returns-then-rem_euclid-parts g c =
    let low : int_rem_euclid c.args.amount (pos g.row.PARTS) <ℤ pos (g.row.PARTS / 2) = search (rules, ints) in
    let is = rounded_down g.row.PARTS c.args.amount c.requires.some c.requires.even low in
    search (rules, ints)

pub returns-else-rem_euclid-parts : goal.returns-else-rem_euclid-parts
returns-else-rem_euclid-parts g c =
    let high : pos (g.row.PARTS / 2) ≤ℤ int_rem_euclid c.args.amount (pos g.row.PARTS) = search (rules, ints) in
    let is = rounded_up g.row.PARTS c.args.amount c.requires.some c.requires.even high in
    search (rules, ints)
