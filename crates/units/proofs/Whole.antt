-- A natural number times a whole number. Assumes nothing.
use Rattle.std.proofs.Common.{◌≡◌, ℕ, ◌+◌, ◌*◌, ℤ, pos, ◌+ℤ◌, ◌*ℤ◌, ◌≤ℤ◌, sym, ap, ◌∙◌, mul-le-mul_left, mul-add, add-mul, mul_assoc, mul_comm, arith}
use borrow.Author.Differences.{ints, up, down, sum_is_lem, product_is, le_out}

spread : (n u a b d x y : ℕ) → u + a + b ≡ d + x + y → n * u + n * a + n * b ≡ n * d + n * x + n * y
spread n u a b d x y e = rw (← mul-add n u a, ← mul-add n (u + a) b, ← mul-add n d x, ← mul-add n (d + x) y, e)

pub times_add : (n : ℕ) (a b : ℤ) → pos n *ℤ (a +ℤ b) ≡ pos n *ℤ a +ℤ pos n *ℤ b
times_add n a b = omega (arith, ints, spread n (up (a +ℤ b)) (down a) (down b) (down (a +ℤ b)) (up a) (up b) (sum_is_lem a b))

up_times : (n : ℕ) (z : ℤ) → up (pos n *ℤ z) ≡ n * up z
up_times n z = omega (arith, product_is (pos n) z)

down_times : (n : ℕ) (z : ℤ) → down (pos n *ℤ z) ≡ n * down z
down_times n z = omega (arith, product_is (pos n) z)

pub times_times : (m n : ℕ) (z : ℤ) → pos m *ℤ (pos n *ℤ z) ≡ pos (m * n) *ℤ z
times_times m n z = omega (arith, ints, ap (λ x. m * x) (up_times n z), ap (λ x. m * x) (down_times n z), mul_assoc m n (up z), mul_assoc m n (down z))

pub times_swap : (m n : ℕ) (z : ℤ) → pos m *ℤ (pos n *ℤ z) ≡ pos n *ℤ (pos m *ℤ z)
times_swap m n z = times_times m n z ∙ ap (λ (x : ℕ). pos x *ℤ z) (mul_comm m n) ∙ sym (times_times n m z)

pub add_times : (m n : ℕ) (z : ℤ) → pos (m + n) *ℤ z ≡ pos m *ℤ z +ℤ pos n *ℤ z
add_times m n z = omega (arith, ints, add-mul m n (up z), add-mul m n (down z))

pub times_le : (n : ℕ) (a b : ℤ) → a ≤ℤ b → (pos n *ℤ a) ≤ℤ (pos n *ℤ b)
times_le n a b h = omega (arith, ints, mul-le-mul_left n (le_out a b h), mul-add n (up a) (down b), mul-add n (up b) (down a))
