-- What a valuation computes, and the laws that every valuation keeps. Assumes nothing.
use Rattle.std.specs.Prelude.{◌≡◌, ℕ, List, length, ℤ, ◌≤ℤ◌}
use Rattle.std.specs.List.{AllZip}

-- `make a` is the figure of an amount, `add x a` is a figure raised by an amount,
-- `join i row xs` joins what follows the moves out of state i, and `discount v x` brings a figure one year back
pub record Operations (F : Type 0) : Type 0 where
  pub make : ℤ → F
  pub add : F → ℤ → F
  pub join : ℕ → List ℕ → List F → F
  pub discount : ℕ → F → F

-- what the ends of figures are: amounts, as many of every figure, and equal only of equal figures
pub record AreEnds {F : Type 0} (ends : F → List ℤ) : Type 0 where
  pub as_many : (x y : F) → length (ends x) ≡ length (ends y)
  pub tell : (x y : F) → ends x ≡ ends y → x ≡ y

-- the order of figures: no end of the first is above that of the second
abbrev pub EndByEnd : {F : Type 0} → (F → List ℤ) → F → F → Type 0
EndByEnd ends x y = AllZip ◌≤ℤ◌ (ends x) (ends y)

-- all four keep order
pub record Ordered {F : Type 0} (ends : F → List ℤ) (v : Operations F) : Type 0 where
  pub make_keeps : (a b : ℤ) → a ≤ℤ b → EndByEnd ends (v.make a) (v.make b)
  pub add_keeps : (x y : F) (a b : ℤ) → EndByEnd ends x y → a ≤ℤ b →
      EndByEnd ends (v.add x a) (v.add y b)
  pub join_keeps : (i : ℕ) (row : List ℕ) (xs ys : List F) → AllZip (EndByEnd ends) xs ys →
      EndByEnd ends (v.join i row xs) (v.join i row ys)
  pub discount_keeps : (factor : ℕ) (x y : F) → EndByEnd ends x y →
      EndByEnd ends (v.discount factor x) (v.discount factor y)
