-- What is used of the rounding of means and of discounted amounts. Assumes nothing.
use Rattle.std.specs.Prelude.{◌≡◌, ℕ, ◌*◌, ℤ, pos, ◌*ℤ◌}
use Rattle.std.proofs.Common.{arith}
use Rattle.std.proofs.lemmas.Int.{ints}
use Rattle.units.specs.Near.{Near, Within}
use Rattle.units.specs.Rounding.{nearest}
use Rattle.units.proofs.Nearest.{to_nearest}
use Rattle.valuation.specs.Means.{rounded_mean, rounded_discount}

-- rounding does not leave a range of whole ticks
pub nearest_within : (d : ℕ) (z : ℤ) → Within (1000000 * d) z → Within d (nearest z)
nearest_within d z h =
    let n = to_nearest.within_half z in
    record { low = omega (arith, ints, h.low, n.low, n.high); high = omega (arith, ints, h.high, n.low, n.high) }

pub rounded_mean_near : (z : ℤ) → Near 500000 (pos 1000000 *ℤ rounded_mean z) z
rounded_mean_near = to_nearest.within_half

pub rounded_discount_near : (z : ℤ) → Near 500000 (pos 1000000 *ℤ rounded_discount z) z
rounded_discount_near = to_nearest.within_half

pub rounded_mean_within : (d : ℕ) (z : ℤ) → Within (1000000 * d) z → Within d (rounded_mean z)
rounded_mean_within = nearest_within

pub rounded_discount_within : (d : ℕ) (z : ℤ) → Within (1000000 * d) z → Within d (rounded_discount z)
rounded_discount_within = nearest_within

-- a whole number of ticks is not rounded
pub rounded_mean_whole : (x : ℤ) → rounded_mean (pos 1000000 *ℤ x) ≡ x
rounded_mean_whole = to_nearest.exact_on_wholes
