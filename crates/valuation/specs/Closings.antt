-- Closing a year: the move by which it closes, and what the closing works from. Assumes nothing.
use Rattle.std.specs.Prelude.{◌≡◌, ℕ, ◌+◌, ◌<◌, ℤ}
use Rattle.units.specs.Near.{Within}
use Rattle.basis.specs.declared.Basis.{Ghosts as BasisGhosts}
use Rattle.basis.specs.Transitions.{Transitions}
use Rattle.plan.specs.Payments.{Payments}
use Rattle.valuation.specs.declared.closing.Move.{Move}
use Rattle.valuation.specs.Reserves.{reserve, expected_at, present_at}

-- W and E of state i in year t, and the reserve of the end state a year later
pub record ClosingValues (c : Transitions) (p : Payments) (premium i t end : ℕ)
    (present expected later : ℤ) : Type 0 where
  pub year_left : t < c.years
  pub from_in_basis : i < c.states
  pub in_basis : end < c.states
  pub discounted_join : present ≡ present_at c p premium i t
  pub join : expected ≡ expected_at c p premium i t
  pub reserve_after : later ≡ reserve c p premium end (t + 1)
  pub present_range : Within 5000000000000 present
  pub expected_range : Within 5000000000000 expected
  pub later_range : Within 5000000000000 later

module _ {B : Type 0} {b : BasisGhosts B} where
  -- a move is the one from state i to state j in year t on a basis
  pub record IsMove (step : Move B b) (basis : B) (i j t : ℕ) : Type 0 where
    pub on_basis : step.basis.now ≡ basis
    pub out_of : step.from ≡ i
    pub into : step.to ≡ j
    pub in_year : step.year ≡ t

  -- the values are those of closing the year by a move, for a plan at a premium
  abbrev pub AreClosingValues : Move B b → Payments → ℕ → (ℤ × ℤ) × ℤ → Type 0
  AreClosingValues step p premium values =
      ClosingValues (b.meaning step.basis.now) p premium step.from step.year step.to
      values.0.0 values.0.1 values.1
