use Rattle.std.proofs.Common.{rules, refl}
use Rattle.std.proofs.lemmas.Int.{to_z-of_z}
use Rattle.c_interface.specs.Outcomes.{least_premium, no_premium}
use Rattle.c_interface.proofs.premiums.entry_for.Goals as goal

pub returns-in-Ok : goal.returns-in-Ok
returns-in-Ok c = least_premium c.in-Ok.premium.ticks (search rules) (simp (to_z-of_z, c.ranges.bound) at c.in-Ok.ensures.least)

pub returns-in-Err : goal.returns-in-Err
returns-in-Err c =
    let refused = simp (to_z-of_z, c.ranges.bound) at c.in-Err.ensures.least in
    no_premium refl refused.none
