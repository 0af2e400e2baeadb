-- What a basis means, and the law that every basis keeps. Assumes nothing.
use Rattle.std.specs.Prelude.{◌≡◌, ℕ, ◌<◌, ◌≤◌, List, map, sum_by}
use Rattle.std.specs.List.{range_with_len}
use Rattle.units.specs.Ranges.{million}

-- states and years are numbered from 0; `factor t` discounts over year t, and `share i j t` is the part of state i that moves to j in it
pub record Transitions : Type 0 where
  pub states : ℕ
  pub years : ℕ
  pub factor : ℕ → ℕ
  pub share : ℕ → ℕ → ℕ → ℕ

-- the states that can be moved to
abbrev pub moves : Transitions → List ℕ
moves c = range_with_len 0 c.states

-- the shares of all moves out of state i in year t
abbrev pub row : Transitions → ℕ → ℕ → List ℕ
row c i t = map (λ j. c.share i j t) (moves c)

pub record Lawful (c : Transitions) : Type 0 where
  pub least_states : 2 ≤ c.states
  pub most_states : c.states ≤ 8
  pub least_years : 1 ≤ c.years
  pub most_years : c.years ≤ 120
  pub least_factor : (t : ℕ) → 1 ≤ c.factor t
  pub most_factor : (t : ℕ) → c.factor t ≤ million
  -- everybody in a state goes somewhere
  pub row : (i t : ℕ) → i < c.states → t < c.years → sum_by (λ j. c.share i j t) (moves c) ≡ million
  pub factor_after : (t : ℕ) → c.years ≤ t → c.factor t ≡ million
  pub share_after : (i j t : ℕ) → c.years ≤ t → c.share i j t ≡ 0
  pub share_from_outside : (i j t : ℕ) → c.states ≤ i → c.share i j t ≡ 0
  pub share_to_outside : (i j t : ℕ) → c.states ≤ j → c.share i j t ≡ 0

-- two bases mean the same, for every argument
pub record AgreeEverywhere (a b : Transitions) : Type 0 where
  pub states : a.states ≡ b.states
  pub years : a.years ≡ b.years
  pub factor : (t : ℕ) → a.factor t ≡ b.factor t
  pub share : (i j t : ℕ) → a.share i j t ≡ b.share i j t
