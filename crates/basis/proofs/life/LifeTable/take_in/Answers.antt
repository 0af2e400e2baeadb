use Rattle.std.proofs.Common.{◌≡◌, pos, refl, arith, rules, w64, SFits, unsigned_abs}
use borrow.Author.Differences.{ints}
use Rattle.std.proofs.lemmas.Result.{err_from_is_err_and}
use Rattle.std.proofs.lemmas.Int.{to_z-of_z}
use Rattle.basis.proofs.Taken.{unfit}
use Rattle.basis.proofs.life.LifeTable.take_in.Goals as goal

pub returns-in_err-check-clause-outcome : goal.returns-in_err-check-clause-outcome
returns-in_err-check-clause-outcome c =
    let p = err_from_is_err_and c.from_residual.result c.from_residual.ensures.1 in
    let fits : SFits w64 c.args.factor = c.ranges.factor in
    let refuses = simp to_z-of_z at c.in_err-check.ensures in
    rw (p.1, p.2) (unfit _ _ _ refuses, refuses, refl)

pub invariant_of-self : goal.invariant_of-self
invariant_of-self c =
    let fits : SFits w64 c.args.factor = c.ranges.factor in
    let fit = simp to_z-of_z at c.in_ok-check.ensures in
    let factor : pos (unsigned_abs c.args.factor) ≡ c.args.factor = omega (arith, ints, fit.discount.least) in
    let held = rw (← c.refill.ensures.items, ← factor) at fit in
    record { fit = search rules; room = omega arith }
