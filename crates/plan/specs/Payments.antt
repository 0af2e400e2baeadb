-- What a plan means, and the law that every plan keeps. Assumes nothing.
use Rattle.std.specs.Prelude.{◌≡◌, ℕ, ◌<◌, ◌≤◌, Bool, false, List, map}
use Rattle.std.specs.List.{range_with_len}
use Rattle.units.specs.Ranges.{limit}

-- `benefit i t` is paid in state i at the start of year t, where `due i t` says whether the premium is due,
-- and `move_benefit i j t` for a move from i to j at its end
pub record Payments : Type 0 where
  pub benefit : ℕ → ℕ → ℕ
  pub due : ℕ → ℕ → Bool
  pub move_benefit : ℕ → ℕ → ℕ → ℕ

-- what is paid for the moves out of state i in year t to each state that a basis can have
abbrev pub benefits_of_moves : Payments → ℕ → ℕ → List ℕ
benefits_of_moves p i t = map (λ j. p.move_benefit i j t) (range_with_len 0 8)

-- no amount is above the limit, and nothing is paid or due in a state above 7 or a year above 120
pub record InRange (p : Payments) : Type 0 where
  pub most_benefit : (i t : ℕ) → p.benefit i t ≤ limit
  pub most_move_benefit : (i j t : ℕ) → p.move_benefit i j t ≤ limit
  pub no_benefit_after : (i t : ℕ) → 120 < t → p.benefit i t ≡ 0
  pub not_due_after : (i t : ℕ) → 120 < t → p.due i t ≡ false
  pub no_move_benefit_after : (i j t : ℕ) → 120 < t → p.move_benefit i j t ≡ 0
  pub no_benefit_outside : (i t : ℕ) → 7 < i → p.benefit i t ≡ 0
  pub not_due_outside : (i t : ℕ) → 7 < i → p.due i t ≡ false
  pub no_move_benefit_from_outside : (i j t : ℕ) → 7 < i → p.move_benefit i j t ≡ 0
  pub no_move_benefit_to_outside : (i j t : ℕ) → 7 < j → p.move_benefit i j t ≡ 0
