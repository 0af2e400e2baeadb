-- Laws of the distance of two whole numbers. Assumes nothing.
use Rattle.std.proofs.Common.{◌≡◌, ℕ, ◌+◌, ◌*◌, ◌≤◌, ℤ, pos, ◌+ℤ◌, ◌*ℤ◌, subst, mul-zero, arith}
use borrow.Author.Differences.{ints}
use Rattle.units.specs.Near.{Near, Within}
use Rattle.units.proofs.Whole.{times_add, times_le}

pub near_same : {a b : ℤ} → a ≡ b → Near 0 a b
near_same {a} {b} e = record { low = omega (arith, ints, e); high = omega (arith, ints, e) }

pub near_more : {d e : ℕ} {a b : ℤ} → d ≤ e → Near d a b → Near e a b
near_more {d} {e} {a} {b} l h = record { low = omega (arith, ints, h.low); high = omega (arith, ints, h.high) }

pub near_add : {d e : ℕ} {a b x y : ℤ} → Near d a b → Near e x y → Near (d + e) (a +ℤ x) (b +ℤ y)
near_add {d} {e} {a} {b} {x} {y} h k = record { low = omega (arith, ints, h.low, k.low); high = omega (arith, ints, h.high, k.high) }

pub near_trans : {d e : ℕ} {a b z : ℤ} → Near d a b → Near e b z → Near (d + e) a z
near_trans {d} {e} {a} {b} {z} h k = record { low = omega (arith, ints, h.low, k.low); high = omega (arith, ints, h.high, k.high) }

-- the same number more on both sides
pub near_onto : {d : ℕ} {a b : ℤ} (x : ℤ) → Near d a b → Near d (x +ℤ a) (x +ℤ b)
near_onto {d} {a} {b} x h = record { low = omega (arith, ints, h.low); high = omega (arith, ints, h.high) }

pub near_times : (n : ℕ) {d : ℕ} {a b : ℤ} → Near d a b → Near (n * d) (pos n *ℤ a) (pos n *ℤ b)
near_times n {d} {a} {b} h = record {
  low = omega (arith, ints, times_le n a (b +ℤ pos d) h.low, times_add n b (pos d));
  high = omega (arith, ints, times_le n b (a +ℤ pos d) h.high, times_add n a (pos d));
}

pub within_pos : (d n : ℕ) → n ≤ d → Within d (pos n)
within_pos d n h = record { low = omega (arith, ints); high = omega (arith, ints) }

pub within_more : {d e : ℕ} {z : ℤ} → d ≤ e → Within d z → Within e z
within_more = near_more

pub within_add : {d e : ℕ} {x y : ℤ} → Within d x → Within e y → Within (d + e) (x +ℤ y)
within_add = near_add

pub within_times : (n : ℕ) {d : ℕ} {z : ℤ} → Within d z → Within (n * d) (pos n *ℤ z)
within_times n {d} {z} h =
    let nought : pos n *ℤ pos 0 ≡ pos 0 = omega (arith, ints, mul-zero n) in
    subst (λ y. Near (n * d) (pos n *ℤ z) y) nought (near_times n h)
