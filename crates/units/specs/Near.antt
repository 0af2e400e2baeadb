-- How far two whole numbers are apart. Assumes nothing.
use Rattle.std.specs.Prelude.{ℕ, ℤ, pos, ◌+ℤ◌, ◌≤ℤ◌}

-- a and b are at most d apart
pub record Near (d : ℕ) (a b : ℤ) : Type 0 where
  pub low : a ≤ℤ (b +ℤ pos d)
  pub high : b ≤ℤ (a +ℤ pos d)

-- z lies from -d to d
abbrev pub Within : ℕ → ℤ → Type 0
Within d z = Near d z (pos 0)
