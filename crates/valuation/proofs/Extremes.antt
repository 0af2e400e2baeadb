-- Laws of the smallest and the largest of some whole numbers. Assumes nothing.
use Rattle.std.proofs.Common.{◌≡◌, ℕ, suc, ◌⊎◌, inl, inr, List, [], ◌∷◌, ℤ, ◌≤ℤ◌, refl, sym, arith}
use borrow.Author.Differences.{ints}
use Rattle.std.specs.Int.{int_min, int_max}
use Rattle.std.specs.List.{AllByRecursion, Contains, fold}
use Rattle.std.proofs.lemmas.Int.{clamps, fold-int_min_reached, fold-int_max_reached}
use Rattle.units.specs.Near.{Within}
use Rattle.units.proofs.Distances.{within_pos}
use Rattle.valuation.specs.Extremes.{smallest, largest, AreExtremes}

-- ---- one of them: no range is left

module _ (f : ℤ → ℤ → ℤ) (d : ℕ) (keeps : (a b : ℤ) → Within d a → Within d b → Within d (f a b)) where
  fold_within : (a : ℤ) (xs : List ℤ) → Within d a → AllByRecursion (Within d) xs → Within d (fold f a xs)
  fold_within a [] h each = h
  fold_within a (x ∷ xs) h each = fold_within (f a x) xs (keeps a x h each.0) each.1

pub smallest_within : (d : ℕ) (xs : List ℤ) → AllByRecursion (Within d) xs → Within d (smallest xs)
smallest_within d [] each = within_pos d 0 (omega arith)
smallest_within d (x ∷ xs) each = fold_within int_min d (λ a b h k. record { low = omega (arith, ints, clamps, h.low, k.low); high = omega (arith, ints, clamps, h.high, k.high) }) x xs each.0 each.1

pub largest_within : (d : ℕ) (xs : List ℤ) → AllByRecursion (Within d) xs → Within d (largest xs)
largest_within d [] each = within_pos d 0 (omega arith)
largest_within d (x ∷ xs) each = fold_within int_max d (λ a b h k. record { low = omega (arith, ints, clamps, h.low, k.low); high = omega (arith, ints, clamps, h.high, k.high) }) x xs each.0 each.1

-- ---- no further than any of them

module _ (f : ℤ → ℤ → ℤ) (below : ℤ → ℤ → Type 0) (trans : (a b z : ℤ) → below a b → below b z → below a z) (same : (a : ℤ) → below a a)
    (first : (a b : ℤ) → below (f a b) a) (second : (a b : ℤ) → below (f a b) b) where
  fold_first : (a : ℤ) (xs : List ℤ) → below (fold f a xs) a
  fold_first a [] = same a
  fold_first a (x ∷ xs) = trans _ _ _ (fold_first (f a x) xs) (first a x)

  fold_each : (a : ℤ) (xs : List ℤ) → AllByRecursion (below (fold f a xs)) xs
  fold_each a [] = tt
  fold_each a (x ∷ xs) = (trans _ _ _ (fold_first (f a x) xs) (second a x), fold_each (f a x) xs)

pub smallest_each : (xs : List ℤ) → AllByRecursion (λ x. smallest xs ≤ℤ x) xs
smallest_each [] = tt
smallest_each (x ∷ xs) =
    let trans : (a b z : ℤ) → a ≤ℤ b → b ≤ℤ z → a ≤ℤ z = λ a b z h k. omega (arith, ints, h, k) in
    let same : (a : ℤ) → a ≤ℤ a = λ a. omega (arith, ints) in
    let first : (a b : ℤ) → int_min a b ≤ℤ a = λ a b. omega (arith, ints, clamps) in
    let second : (a b : ℤ) → int_min a b ≤ℤ b = λ a b. omega (arith, ints, clamps) in
    (fold_first int_min ◌≤ℤ◌ trans same first second x xs, fold_each int_min ◌≤ℤ◌ trans same first second x xs)

pub largest_each : (xs : List ℤ) → AllByRecursion (λ x. x ≤ℤ largest xs) xs
largest_each [] = tt
largest_each (x ∷ xs) =
    let above : ℤ → ℤ → Type 0 = λ a b. b ≤ℤ a in
    let trans : (a b z : ℤ) → b ≤ℤ a → z ≤ℤ b → z ≤ℤ a = λ a b z h k. omega (arith, ints, h, k) in
    let same : (a : ℤ) → a ≤ℤ a = λ a. omega (arith, ints) in
    let first : (a b : ℤ) → a ≤ℤ int_max a b = λ a b. omega (arith, ints, clamps) in
    let second : (a b : ℤ) → b ≤ℤ int_max a b = λ a b. omega (arith, ints, clamps) in
    (fold_first int_max above trans same first second x xs, fold_each int_max above trans same first second x xs)

-- ---- one of them

contains_from : (x : ℤ) (xs : List ℤ) (r : ℤ) → (r ≡ x) ⊎ Contains xs r → Contains (x ∷ xs) r
contains_from x xs r (inl first) = (0, omega arith, sym first)
contains_from x xs r (inr later) = (suc later.0, omega (arith, later.1), later.2)

pub extremes : AreExtremes smallest largest
extremes = record {
  smallest_is_one = λ x xs. contains_from x xs (smallest (x ∷ xs)) (fold-int_min_reached x xs (smallest (x ∷ xs)) refl);
  none_is_smaller = smallest_each;
  largest_is_one = λ x xs. contains_from x xs (largest (x ∷ xs)) (fold-int_max_reached x xs (largest (x ∷ xs)) refl);
  none_is_larger = largest_each;
}
