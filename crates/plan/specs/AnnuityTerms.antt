-- The terms of an annuity: which are fit, and what is first wrong with others. Assumes nothing.
use Rattle.std.specs.Prelude.{◌≡◌, ℕ, ◌≤◌, ℤ}
use Rattle.units.specs.Ranges.{WithinLimit}
use Rattle.units.specs.Faults.{entry_fault}
use Rattle.units.specs.declared.fault.Fault.{Fault}
use Rattle.units.specs.declared.fault.Layer.TheVariants.{Plan}

pub record FitYears (state first end paying_years : ℕ) : Type 0 where
  pub recipient : state ≤ 7
  pub order : first ≤ end
  pub few : end ≤ 120
  pub paying : paying_years ≤ 120

pub record Fit (amount : ℤ) (state first end paying_years : ℕ) : Type 0 where
  pub years : FitYears state first end paying_years
  pub ticks : WithinLimit amount

-- the first thing that is wrong: the state or the years, which have no entry of their own, and then the first benefit
pub data Refuses (amount : ℤ) (state first end paying_years : ℕ) (fault : Fault) : Type 0 where
  unfit_years : fault ≡ entry_fault 12 Plan 0 0 → (FitYears state first end paying_years → ⊥) → Refuses amount state first end paying_years fault
  unfit_amount : fault ≡ entry_fault 12 Plan first state → FitYears state first end paying_years → (WithinLimit amount → ⊥) → Refuses amount state first end paying_years fault
