-- Columns of numbers as a caller hands them in, and the first entry that is out of range. Assumes nothing.
use Rattle.std.specs.Prelude.{ℕ, ◌<◌, List, length, ℤ, pos, ◌≤ℤ◌, slice_index_or}

pub record Between (low high z : ℤ) : Type 0 where
  pub least : low ≤ℤ z
  pub most : z ≤ℤ high

-- every entry below place k lies in the range
abbrev pub AllBelow : ℕ → ℤ → ℤ → List ℤ → Type 0
AllBelow k low high column = (t : ℕ) → t < k → Between low high (slice_index_or column t (pos 0))

abbrev pub AllBetween : ℤ → ℤ → List ℤ → Type 0
AllBetween low high column = AllBelow (length column) low high column

-- the entry at place t is the first out of range
pub record FirstOutside (low high : ℤ) (column : List ℤ) (t : ℕ) : Type 0 where
  pub inside : t < length column
  pub outside : Between low high (slice_index_or column t (pos 0)) → ⊥
  pub before : AllBelow t low high column
