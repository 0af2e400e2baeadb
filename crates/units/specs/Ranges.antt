-- Ranges of amounts. Assumes nothing.
use Rattle.std.specs.Prelude.{ℕ, ℤ, pos, ◌≤ℤ◌}

-- a whole, in parts of a million
abbrev pub million : ℕ
million = 1000000

-- the largest amount, in ticks
abbrev pub limit : ℕ
limit = 10000000000

pub record WithinLimit (ticks : ℤ) : Type 0 where
  pub low : pos 0 ≤ℤ ticks
  pub high : ticks ≤ℤ pos limit
