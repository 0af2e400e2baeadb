use Rattle.std.proofs.Common.{◌≡◌, rules, ◌*ℤ◌, FitsSigned, w64, to_z, of_z, arith}
use Rattle.units.specs.Near.{Within}
use Rattle.units.proofs.Distances.{within_more}
use Rattle.contract.specs.Steps.{rounded_interest}
use Rattle.contract.proofs.Interest.{within_product, fits_within, interest_within}
use Rattle.contract.proofs.contract.closing.interest_earned.Goals as goal

pub returns-clause-value : goal.returns-clause-value
returns-clause-value c =
    let small : Within 2500000000000000000 (c.args.amount *ℤ c.args.rate) = within_product c.requires.amount c.requires.rate in
    let fits : FitsSigned w64 (c.args.amount *ℤ c.args.rate) = fits_within _ (within_more (omega arith) small) in
    Prim.search rules

pub returns-clause-range : goal.returns-clause-range
returns-clause-range c =
    let value : to_z w64 (of_z w64 c.nearest.result) ≡ rounded_interest (c.args.amount *ℤ c.args.rate) = returns-clause-value c in
    rw value (interest_within 2500000000000 _ (within_product c.requires.amount c.requires.rate))
