-- Rounding to the nearest, from a quotient and a remainder. Assumes nothing.
use Rattle.std.proofs.Common.{◌≡◌, ℕ, zero, suc, ◌+◌, ◌-◌, ◌*◌, ◌/◌, ◌%◌, ◌<◌, ◌≤◌, ℤ, pos, negsuc, ◌+ℤ◌, ◌≤ℤ◌, ◌<ℤ◌, ◌⊎◌, inl, inr, true, false, leb, sym, ap, ◌∙◌, add-mul, mod-lt, div-add-mod', arith}
use borrow.Author.Differences.{ints}
use Rattle.std.proofs.lemmas.Bool.Decides.{leb_tells}
use Rattle.std.proofs.lemmas.Nat.{div-mul-add}
use Rattle.std.specs.Int.{int_div_euclid, int_rem_euclid}
use Rattle.units.specs.Rounding.{rounded}

-- x is q wholes of p parts and r parts
quotient : (q p r x : ℕ) → x ≡ q * p + r → r < p → x / p ≡ q
quotient q p r x e small = ap (λ y. y / p) e ∙ div-mul-add q p r small

next : (q p : ℕ) → (q + 1) * p ≡ q * p + p
next q p = omega (arith, add-mul q 1 p)

-- z and half a whole come to x, or to one more than x below nought
from_pos : (p x : ℕ) (z : ℤ) → z +ℤ pos (p / 2) ≡ pos x → rounded p z ≡ pos (x / p)
from_pos p x z e = ap (λ y. int_div_euclid y (pos p)) e

from_negsuc : (p x : ℕ) (z : ℤ) → z +ℤ pos (p / 2) ≡ negsuc x → rounded p z ≡ negsuc (x / p)
from_negsuc p x z e = ap (λ y. int_div_euclid y (pos p)) e

pub rounded_down : (p : ℕ) (a : ℤ) → 0 < p → p % 2 ≡ 0 → int_rem_euclid a (pos p) <ℤ pos (p / 2) → int_div_euclid a (pos p) ≡ rounded p a
rounded_down p (pos a) some even low =
    let is = div-add-mod' a p in
    let half : a % p < p / 2 = omega (arith, ints, low) in
    sym (from_pos p (a + p / 2) (pos a) (omega (arith, ints)) ∙ ap pos (quotient (a / p) p (a % p + p / 2) (a + p / 2) (omega (arith, is)) (omega (arith, half, even))))
rounded_down p (negsuc a) some even low =
    let is = div-add-mod' a p in
    let below = mod-lt a some in
    let half : p / 2 ≤ a % p = omega (arith, ints, low, below, even) in
    sym (from_negsuc p (a - p / 2) (negsuc a) (omega (arith, ints, is, half)) ∙ ap negsuc (quotient (a / p) p (a % p - p / 2) (a - p / 2) (omega (arith, is, half)) (omega (arith, below))))

-- one more than the quotient, of a number below nought of which more than half a whole is left
below_nought : (p a q r : ℕ) → p % 2 ≡ 0 → q * p + r ≡ a → r + p / 2 < p → ((leb (p / 2) a ≡ true) × (p / 2 ≤ a)) ⊎ ((leb (p / 2) a ≡ false) × (a < p / 2)) → negsuc q +ℤ pos 1 ≡ rounded p (negsuc a)
below_nought p a zero r even is half (inl large) = absurd (omega (arith, is, half, even, large.1))
below_nought p a (suc k) r even is half (inl large) =
    let less : (a - p / 2) / p ≡ k = quotient k p (r + p / 2) (a - p / 2) (omega (arith, is, even, large.1, next k p)) half in
    omega (arith, ints, less, from_negsuc p (a - p / 2) (negsuc a) (omega (arith, ints, large.1)))
below_nought p a (suc k) r even is half (inr small) = absurd (omega (arith, is, half, even, small.1, next k p))
below_nought p a zero r even is half (inr small) =
    let none : (p / 2 - 1 - a) / p ≡ 0 = quotient 0 p (p / 2 - 1 - a) (p / 2 - 1 - a) (omega arith) (omega (arith, half)) in
    omega (arith, ints, none, from_pos p (p / 2 - 1 - a) (negsuc a) (omega (arith, ints, small.1)))

pub rounded_up : (p : ℕ) (a : ℤ) → 0 < p → p % 2 ≡ 0 → pos (p / 2) ≤ℤ int_rem_euclid a (pos p) → int_div_euclid a (pos p) +ℤ pos 1 ≡ rounded p a
rounded_up p (pos a) some even high =
    let is = div-add-mod' a p in
    let below = mod-lt a some in
    let half : p / 2 ≤ a % p = omega (arith, ints, high) in
    let up : (a + p / 2) / p ≡ a / p + 1 = quotient (a / p + 1) p (a % p - p / 2) (a + p / 2) (omega (arith, is, half, even, next (a / p) p)) (omega (arith, below)) in
    omega (arith, ints, up, from_pos p (a + p / 2) (pos a) (omega (arith, ints)))
rounded_up p (negsuc a) some even high =
    let is = div-add-mod' a p in
    let half : a % p + p / 2 < p = omega (arith, ints, high, mod-lt a some) in
    below_nought p a (a / p) (a % p) even is half (leb_tells (p / 2) a)
