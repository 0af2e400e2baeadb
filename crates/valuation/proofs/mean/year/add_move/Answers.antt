use Rattle.std.proofs.Common.{rules, pos, ◌+ℤ◌, ◌*ℤ◌, w64, FitsSigned, mul-le-mul_right, arith}
use Rattle.std.proofs.lemmas.Int.{ints}
use Rattle.units.specs.Near.{Within}
use Rattle.units.specs.Ranges.{limit}
use Rattle.units.proofs.Distances.{within_pos, within_more, within_add, within_times}
use Rattle.valuation.proofs.mean.year.add_move.Goals as goal

pub returns : goal.returns
returns c =
    let raised : Within 4590000000000 (pos c.args.amount +ℤ c.args.figure) = within_add (within_pos limit c.args.amount c.requires.amount) c.requires.figure in
    let product : Within 4590000000000000000 (pos c.args.share *ℤ (pos c.args.amount +ℤ c.args.figure)) = within_more (omega (arith, mul-le-mul_right 4590000000000 c.requires.share)) (within_times c.args.share raised) in
    let fits : FitsSigned w64 (pos c.args.share *ℤ (pos c.args.amount +ℤ c.args.figure)) = grind (arith, ints, product.low, product.high) in
    search (rules, fits)
