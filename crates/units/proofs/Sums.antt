-- Sums and products over lists. Assumes nothing.
use Rattle.std.proofs.Common.{◌≡◌, ℕ, zero, suc, ◌+◌, ◌*◌, ◌<◌, ◌≤◌, List, [], ◌∷◌, ◌++◌, map, length, get_or, take, drop, ℤ, pos, ◌+ℤ◌, ◌*ℤ◌, sum_by, flat_map, sym, refl, ap, ap₂, ◌∙◌, add-mul, add-one, arith}
use borrow.Author.Differences.{ints}
use Rattle.std.specs.List.{range_with_len}
use Rattle.std.proofs.Math.IntN.{+ℤ_idl, +ℤ_idr, +ℤ_assoc, *ℤ-zero}
use Rattle.std.proofs.lemmas.List.{take_more, drop_more}
use Rattle.std.proofs.lemmas.List.Sums.{sum_by-cons}
use Rattle.units.specs.Near.{Near, Within}
use Rattle.units.specs.Sums.{int_sum_by, product_by}
use Rattle.units.proofs.Distances.{near_same, near_more, near_add, near_times}
use Rattle.units.proofs.Whole.{times_add, add_times}

pub sum_by_same : {X : Type 0} (f g : X → ℕ) (xs : List X) → ((x : X) → f x ≡ g x) → sum_by f xs ≡ sum_by g xs
sum_by_same f g xs same = ap (λ h. sum_by h xs) (λ u x. same x u)

pub sum_by_none : {X : Type 0} (f : X → ℕ) (xs : List X) → ((x : X) → f x ≡ 0) → sum_by f xs ≡ 0
sum_by_none f [] none = refl
sum_by_none f (x ∷ xs) none = omega (arith, sum_by-cons f x xs, none x, sum_by_none f xs none)

pub sum_by_counting_same : (f g : ℕ → ℕ) (a n : ℕ) → ((j : ℕ) → j < a + n → f j ≡ g j) → sum_by f (range_with_len a n) ≡ sum_by g (range_with_len a n)
sum_by_counting_same f g a zero same = refl
sum_by_counting_same f g a (suc n) same =
    omega (arith, sum_by-cons f a (range_with_len (a + 1) n), sum_by-cons g a (range_with_len (a + 1) n), same a (omega arith), sum_by_counting_same f g (a + 1) n (λ j below. same j (omega arith)))

-- ---- a sum of equal numbers, of a joined list, of sums and of multiples

pub int_sum_by_same : {X : Type 0} (f g : X → ℤ) (xs : List X) → ((x : X) → f x ≡ g x) → int_sum_by f xs ≡ int_sum_by g xs
int_sum_by_same f g xs same = ap (λ h. int_sum_by h xs) (λ u x. same x u)

pub int_sum_by_counting_same : (f g : ℕ → ℤ) (a n : ℕ) → ((j : ℕ) → j < a + n → f j ≡ g j) → int_sum_by f (range_with_len a n) ≡ int_sum_by g (range_with_len a n)
int_sum_by_counting_same f g a zero same = refl
int_sum_by_counting_same f g a (suc n) same =
    ap₂ ◌+ℤ◌ (same a (omega arith)) (int_sum_by_counting_same f g (a + 1) n (λ j below. same j (omega arith)))

pub int_sum_by_append : {X : Type 0} (f : X → ℤ) (xs ys : List X) → int_sum_by f (xs ++ ys) ≡ int_sum_by f xs +ℤ int_sum_by f ys
int_sum_by_append f [] ys = sym (+ℤ_idl (int_sum_by f ys))
int_sum_by_append f (x ∷ xs) ys = ap (λ z. f x +ℤ z) (int_sum_by_append f xs ys) ∙ sym (+ℤ_assoc (f x) (int_sum_by f xs) (int_sum_by f ys))

pub int_sum_by_map : {X Y : Type 0} (f : Y → ℤ) (g : X → Y) (xs : List X) → int_sum_by f (map g xs) ≡ int_sum_by (λ x. f (g x)) xs
int_sum_by_map f g [] = refl
int_sum_by_map f g (x ∷ xs) = ap (λ z. f (g x) +ℤ z) (int_sum_by_map f g xs)

pub int_sum_by_flat_map : {X Y : Type 0} (f : Y → ℤ) (g : X → List Y) (xs : List X) → int_sum_by f (flat_map g xs) ≡ int_sum_by (λ x. int_sum_by f (g x)) xs
int_sum_by_flat_map f g [] = refl
int_sum_by_flat_map f g (x ∷ xs) = int_sum_by_append f (g x) (flat_map g xs) ∙ ap (λ z. int_sum_by f (g x) +ℤ z) (int_sum_by_flat_map f g xs)

pub int_sum_by_add : {X : Type 0} (f g : X → ℤ) (xs : List X) → int_sum_by (λ x. f x +ℤ g x) xs ≡ int_sum_by f xs +ℤ int_sum_by g xs
int_sum_by_add f g [] = refl
int_sum_by_add f g (x ∷ xs) = omega (arith, ints, int_sum_by_add f g xs)

pub int_sum_by_times : {X : Type 0} (n : ℕ) (f : X → ℤ) (xs : List X) → int_sum_by (λ x. pos n *ℤ f x) xs ≡ pos n *ℤ int_sum_by f xs
int_sum_by_times n f [] = omega (arith, ints)
int_sum_by_times n f (x ∷ xs) = omega (arith, ints, int_sum_by_times n f xs, times_add n (f x) (int_sum_by f xs))

-- so many times the same number
pub int_sum_by_weights : {X : Type 0} (weight : X → ℕ) (z : ℤ) (xs : List X) → int_sum_by (λ x. pos (weight x) *ℤ z) xs ≡ pos (sum_by weight xs) *ℤ z
int_sum_by_weights weight z [] = omega (arith, ints)
int_sum_by_weights weight z (x ∷ xs) = rw (sum_by-cons weight x xs, add_times (weight x) (sum_by weight xs) z, int_sum_by_weights weight z xs)

-- ---- sums and products that count from one more

pub int_sum_by_shift : (f : ℕ → ℤ) (a n : ℕ) → int_sum_by f (range_with_len (a + 1) n) ≡ int_sum_by (λ u. f (suc u)) (range_with_len a n)
int_sum_by_shift f a zero = refl
int_sum_by_shift f a (suc n) = ap₂ ◌+ℤ◌ (ap f (add-one a)) (int_sum_by_shift f (a + 1) n)

pub product_by_shift : (f : ℕ → ℕ) (a n : ℕ) → product_by f (range_with_len (a + 1) n) ≡ product_by (λ u. f (suc u)) (range_with_len a n)
product_by_shift f a zero = refl
product_by_shift f a (suc n) = ap₂ ◌*◌ (ap f (add-one a)) (product_by_shift f (a + 1) n)

-- ---- weighted sums

-- weighted sums of numbers that are at most d apart
pub int_sum_by_near : (weight : ℕ → ℕ) (f g : ℕ → ℤ) (d m : ℕ) → ((j : ℕ) → j < m → Near d (f j) (g j)) → (a n : ℕ) → a + n ≤ m → Near (sum_by weight (range_with_len a n) * d) (int_sum_by (λ j. pos (weight j) *ℤ f j) (range_with_len a n)) (int_sum_by (λ j. pos (weight j) *ℤ g j) (range_with_len a n))
int_sum_by_near weight f g d m each a zero l = near_more (omega arith) (near_same refl)
int_sum_by_near weight f g d m each a (suc n) l =
    rw (sum_by-cons weight a (range_with_len (a + 1) n), add-mul (weight a) (sum_by weight (range_with_len (a + 1) n)) d)
    (near_add (near_times (weight a) (each a (omega arith))) (int_sum_by_near weight f g d m each (a + 1) n (omega arith)))

-- a weighted sum of numbers from -d to d
pub int_sum_by_within : (weight : ℕ → ℕ) (f : ℕ → ℤ) (d m : ℕ) → ((j : ℕ) → j < m → Within d (f j)) → (a n : ℕ) → a + n ≤ m → Within (sum_by weight (range_with_len a n) * d) (int_sum_by (λ j. pos (weight j) *ℤ f j) (range_with_len a n))
int_sum_by_within weight f d m each a n l =
    let nought = int_sum_by_weights weight (pos 0) (range_with_len a n) ∙ *ℤ-zero (pos (sum_by weight (range_with_len a n))) in
    rw nought at (int_sum_by_near weight f (λ j. pos 0) d m each a n l)

pub int_sum_by_more : {X : Type 0} (f : X → ℤ) (xs : List X) (i : ℕ) (d : X) → i < length xs → int_sum_by f (take (i + 1) xs) ≡ int_sum_by f (take i xs) +ℤ f (get_or xs i d)
int_sum_by_more f xs i d inside =
    ap (int_sum_by f) (take_more xs i d inside)
    ∙ int_sum_by_append f (take i xs) (get_or xs i d ∷ [])
    ∙ ap (λ z. int_sum_by f (take i xs) +ℤ z) (+ℤ_idr (f (get_or xs i d)))

-- a sum of natural numbers, as whole numbers
pub int_sum_by_pos : (xs : List ℕ) → int_sum_by (λ z. z) (map pos xs) ≡ pos (sum_by (λ x. x) xs)
int_sum_by_pos [] = refl
int_sum_by_pos (x ∷ xs) = ap (λ z. pos x +ℤ z) (int_sum_by_pos xs) ∙ ap pos (omega (arith, sum_by-cons (λ x. x) x xs))

-- a sum over the places of a list from `start + a` on is the sum of what stands there
pub sum_by_places : (xs : List ℕ) (start a n : ℕ) → start + a + n ≤ length xs → sum_by (λ j. get_or xs (start + j) 0) (range_with_len a n) ≡ sum_by (λ x. x) (take n (drop (start + a) xs))
sum_by_places xs start a zero inside = refl
sum_by_places xs start a (suc n) inside =
    sum_by-cons (λ j. get_or xs (start + j) 0) a (range_with_len (a + 1) n)
    ∙ ap (λ z. get_or xs (start + a) 0 + z) (sum_by_places xs start (a + 1) n (omega arith) ∙ ap (λ k. sum_by (λ x. x) (take n (drop k xs))) (omega arith))
    ∙ sym (ap (λ ys. sum_by (λ x. x) (take (suc n) ys)) (drop_more xs (start + a) 0 (omega arith)) ∙ sum_by-cons (λ x. x) (get_or xs (start + a) 0) (take n (drop (start + a + 1) xs)))
