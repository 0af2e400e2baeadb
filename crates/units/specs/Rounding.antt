-- Rounding to whole ticks. Assumes nothing.
use Rattle.std.specs.Prelude.{◌≡◌, ℕ, ◌/◌, ℤ, pos, ◌+ℤ◌, ◌*ℤ◌, ◌≤ℤ◌}
use Rattle.std.specs.Int.{int_div_euclid}
use Rattle.units.specs.Near.{Near}

-- so many parts to the nearest whole, halves upwards: half a whole is added, and the quotient rounded down
abbrev pub rounded : ℕ → ℤ → ℤ
rounded parts a = int_div_euclid (a +ℤ pos (parts / 2)) (pos parts)

-- millionths to the nearest whole, halves upwards: (a + 500,000) / 1,000,000, rounded down
abbrev pub nearest : ℤ → ℤ
nearest = rounded 1000000

-- what rounding of millionths to the nearest whole number gives
pub record ToNearest (round : ℤ → ℤ) : Type 0 where
  pub keeps_order : (a b : ℤ) → a ≤ℤ b → round a ≤ℤ round b
  pub within_half : (a : ℤ) → Near 500000 (pos 1000000 *ℤ round a) a
  pub exact_on_wholes : (x : ℤ) → round (pos 1000000 *ℤ x) ≡ x
