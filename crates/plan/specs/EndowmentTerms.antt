-- The terms of an endowment: which are fit, and what is first wrong with others. Assumes nothing.
use Rattle.std.specs.Prelude.{◌≡◌, ℕ, ◌≤◌, ℤ}
use Rattle.units.specs.Ranges.{WithinLimit}
use Rattle.units.specs.Faults.{entry_fault}
use Rattle.units.specs.declared.fault.Fault.{Fault}
use Rattle.units.specs.declared.fault.Layer.TheVariants.{Plan}

pub record FitYears (term paying_years : ℕ) : Type 0 where
  pub some : 1 ≤ term
  pub few : term ≤ 120
  pub paying : paying_years ≤ term

pub record Fit (sum : ℤ) (term paying_years : ℕ) : Type 0 where
  pub years : FitYears term paying_years
  pub amount : WithinLimit sum

-- the first thing that is wrong: the years, which have no entry of their own, and then the benefit at the term
pub data Refuses (sum : ℤ) (term paying_years : ℕ) (fault : Fault) : Type 0 where
  unfit_years : fault ≡ entry_fault 12 Plan 0 0 → (FitYears term paying_years → ⊥) → Refuses sum term paying_years fault
  unfit_sum : fault ≡ entry_fault 12 Plan term 0 → FitYears term paying_years → (WithinLimit sum → ⊥) → Refuses sum term paying_years fault
