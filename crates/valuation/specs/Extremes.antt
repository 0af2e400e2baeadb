-- The smallest and the largest of some whole numbers. Assumes nothing.
use Rattle.std.specs.Prelude.{List, [], ◌∷◌, ℤ, pos, ◌≤ℤ◌}
use Rattle.std.specs.Int.{int_min, int_max}
use Rattle.std.specs.List.{AllByRecursion, Contains, fold}

-- nought where there is none
abbrev pub smallest : List ℤ → ℤ
smallest [] = pos 0
smallest (x ∷ xs) = fold int_min x xs

abbrev pub largest : List ℤ → ℤ
largest [] = pos 0
largest (x ∷ xs) = fold int_max x xs

-- what the smallest and the largest of some numbers are: one of them, beyond which none of them lies
pub record AreExtremes (smallest largest : List ℤ → ℤ) : Type 0 where
  pub smallest_is_one : (x : ℤ) (xs : List ℤ) → Contains (x ∷ xs) (smallest (x ∷ xs))
  pub none_is_smaller : (xs : List ℤ) → AllByRecursion (λ x. smallest xs ≤ℤ x) xs
  pub largest_is_one : (x : ℤ) (xs : List ℤ) → Contains (x ∷ xs) (largest (x ∷ xs))
  pub none_is_larger : (xs : List ℤ) → AllByRecursion (λ x. x ≤ℤ largest xs) xs
