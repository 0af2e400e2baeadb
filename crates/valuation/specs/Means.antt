-- The mean: figures are ticks, and a join is the mean of what follows. Assumes nothing.
use Rattle.std.specs.Prelude.{ℕ, ◌≤◌, List, [], ◌∷◌, ℤ, pos, ◌+ℤ◌, ◌*ℤ◌, sum}
use Rattle.std.specs.Int.{saturate_to_bits}
use Rattle.units.specs.Near.{Within}
use Rattle.units.specs.Ranges.{million}
use Rattle.units.specs.Rounding.{nearest}
use Rattle.valuation.specs.Operations.{Operations}

-- how a mean, in millionths of a tick, is rounded
abbrev pub rounded_mean : ℤ → ℤ
rounded_mean = nearest

-- how a discounted amount, in millionths of a tick, is rounded
abbrev pub rounded_discount : ℤ → ℤ
rounded_discount = nearest

-- shares times figures, added to a sum; a sum or product that 64 bits do not hold becomes the nearest that they do
abbrev pub weighted : ℤ → List ℕ → List ℤ → ℤ
weighted so_far [] xs = so_far
weighted so_far (p ∷ ps) [] = so_far
weighted so_far (p ∷ ps) (x ∷ xs) = weighted (saturate_to_bits 63 (so_far +ℤ saturate_to_bits 63 (pos p *ℤ x))) ps xs

abbrev pub mean : Operations ℤ
mean = record {
  make = λ a. a;
  add = λ x a. saturate_to_bits 63 (x +ℤ a);
  join = λ i row xs. rounded_mean (weighted (pos 0) row xs);
  discount = λ factor x. rounded_discount (saturate_to_bits 63 (pos factor *ℤ x));
}

-- a figure is its one end
abbrev pub mean_ends : ℤ → List ℤ
mean_ends x = x ∷ []

-- ---- where every answer is fixed; beyond, answers are free but keep order

abbrev pub LawfulFigure : ℤ → Type 0
LawfulFigure x = Within 5000000000000 x

abbrev pub LawfulRow : List ℕ → Type 0
LawfulRow row = sum row ≤ million

-- shares times figures, added up
abbrev pub products : List ℕ → List ℤ → ℤ
products [] xs = pos 0
products (p ∷ ps) [] = pos 0
products (p ∷ ps) (x ∷ xs) = pos p *ℤ x +ℤ products ps xs
