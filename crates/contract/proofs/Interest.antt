-- How large interest can be. Assumes nothing.
use Rattle.std.proofs.Common.{ℕ, ◌*◌, ◌≤◌, ℤ, pos, negsuc, ◌-ℤ◌, ◌*ℤ◌, unsigned_abs, FitsSigned, w64, arith}
use Rattle.std.proofs.lemmas.Int.{ints, unsigned_abs-mul}
use Rattle.std.proofs.Math.Nat.{mul-le-mul}
use Rattle.units.specs.Near.{Within}
use Rattle.valuation.proofs.Rounded.{nearest_within}
use Rattle.contract.specs.Steps.{rounded_interest}

abs_of : (d : ℕ) (z : ℤ) → Within d z → unsigned_abs z ≤ d
abs_of d (pos n) h = omega (arith, ints, h)
abs_of d (negsuc n) h = omega (arith, ints, h)

within_abs : (d : ℕ) (z : ℤ) → unsigned_abs z ≤ d → Within d z
within_abs d (pos n) h = omega (arith, ints, h)
within_abs d (negsuc n) h = omega (arith, ints, h)

pub within_product : {d e : ℕ} {a b : ℤ} → Within d a → Within e b → Within (d * e) (a *ℤ b)
within_product {d} {e} {a} {b} h k =
    let bound : unsigned_abs a * unsigned_abs b ≤ d * e = mul-le-mul (abs_of d a h) (abs_of e b k) in
    within_abs (d * e) (a *ℤ b) (rw (unsigned_abs-mul a b) bound)

pub interest_within : (d : ℕ) (z : ℤ) → Within (1000000 * d) z → Within d (rounded_interest z)
interest_within = nearest_within

-- what is within this fits 64 bits
pub fits_within : (z : ℤ) → Within 9000000000000000000 z → FitsSigned w64 z
fits_within (pos n) h = grind (arith, ints)
fits_within (negsuc n) h = grind (arith, ints)

-- interest earned, less what was reckoned with
pub interest_small : (earned w e : ℤ) → Within 2500000000000 earned → Within 5000000000000 w → Within 5000000000000 e → Within 9000000000000000000 (earned -ℤ (e -ℤ w))
interest_small earned w e h k l = record { low = omega (arith, ints, h.low, h.high, k.low, k.high, l.low, l.high); high = omega (arith, ints, h.low, h.high, k.low, k.high, l.low, l.high) }
