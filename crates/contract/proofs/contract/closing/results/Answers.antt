use Rattle.std.proofs.Common.{◌≡◌, rules, pos, ◌-ℤ◌, FitsSigned, w64, to_z, of_z}
use Rattle.std.proofs.lemmas.Int.{to_z-of_z}
use Rattle.contract.proofs.Interest.{fits_within, interest_small}
use Rattle.contract.proofs.contract.closing.results.Goals as goal

pub returns-clause-interest : goal.returns-clause-interest
returns-clause-interest c =
    let needed : to_z w64 (of_z w64 (to_z w64 (of_z w64 c.args.pair.1) -ℤ to_z w64 (of_z w64 c.args.pair.0))) ≡ c.args.pair.1 -ℤ c.args.pair.0 = Prim.search rules in
    let fits : FitsSigned w64 (c.args.earned -ℤ (c.args.pair.1 -ℤ c.args.pair.0)) = fits_within _ (interest_small c.args.earned c.args.pair.0 c.args.pair.1 c.requires.earned c.requires.discounted c.requires.join) in
    let kept : to_z w64 (of_z w64 (to_z w64 (of_z w64 c.args.earned) -ℤ to_z w64 (of_z w64 (to_z w64 (of_z w64 c.args.pair.1) -ℤ to_z w64 (of_z w64 c.args.pair.0))))) ≡ c.args.earned -ℤ (c.args.pair.1 -ℤ c.args.pair.0) = rw (to_z-of_z _ _ c.ranges.earned, needed) (to_z-of_z _ _ fits) in
    kept

pub returns-clause-risk : goal.returns-clause-risk
returns-clause-risk c =
    let join : to_z w64 (of_z w64 c.args.pair.1) ≡ c.args.pair.1 = Prim.search rules in
    let benefit : to_z w64 c.args.benefit ≡ pos c.args.benefit = Prim.search rules in
    let less : to_z w64 (of_z w64 (c.args.pair.1 -ℤ pos c.args.benefit)) ≡ c.args.pair.1 -ℤ pos c.args.benefit = Prim.search rules in
    let risk : to_z w64 (of_z w64 ((c.args.pair.1 -ℤ pos c.args.benefit) -ℤ c.args.later)) ≡ (c.args.pair.1 -ℤ pos c.args.benefit) -ℤ c.args.later = Prim.search rules in
    let kept : to_z w64 (of_z w64 (to_z w64 (of_z w64 (to_z w64 (of_z w64 c.args.pair.1) -ℤ to_z w64 c.args.benefit)) -ℤ to_z w64 (of_z w64 c.args.later))) ≡ (c.args.pair.1 -ℤ pos c.args.benefit) -ℤ c.args.later = rw (join, benefit, less, to_z-of_z _ _ c.ranges.later) risk in
    kept
