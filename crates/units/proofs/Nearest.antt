-- The laws of rounding to the nearest. Assumes nothing.
use Rattle.std.proofs.Common.{ℤ, pos, negsuc, ◌+ℤ◌, ◌*ℤ◌, ◌≤ℤ◌, arith}
use borrow.Author.Differences.{ints}
use Rattle.std.specs.Int.{int_div_euclid}
use Rattle.units.specs.Rounding.{nearest, ToNearest}

floor_near : (a : ℤ) → ((pos 1000000 *ℤ int_div_euclid a (pos 1000000)) ≤ℤ a) × (a ≤ℤ (pos 1000000 *ℤ int_div_euclid a (pos 1000000) +ℤ pos 999999))
floor_near (pos a) = (omega (arith, ints), omega (arith, ints))
floor_near (negsuc a) = (omega (arith, ints), omega (arith, ints))

pub to_nearest : ToNearest nearest
to_nearest = record {
  keeps_order = λ a b h. omega (arith, ints, floor_near (a +ℤ pos 500000), floor_near (b +ℤ pos 500000));
  within_half = λ a. record { low = omega (arith, ints, floor_near (a +ℤ pos 500000)); high = omega (arith, ints, floor_near (a +ℤ pos 500000)) };
  exact_on_wholes = λ x. omega (arith, ints, floor_near (pos 1000000 *ℤ x +ℤ pos 500000));
}
