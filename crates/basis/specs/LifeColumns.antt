-- A column of death shares with a factor: which are fit, and what is first wrong with others. Assumes nothing.
use Rattle.std.specs.Prelude.{◌≡◌, ℕ, ◌≤◌, List, length, ℤ, pos}
use Rattle.units.specs.Ranges.{million}
use Rattle.units.specs.Faults.{entry_fault}
use Rattle.units.specs.declared.fault.Fault.{Fault}
use Rattle.units.specs.declared.fault.Layer.TheVariants.{Basis}
use Rattle.units.specs.Columns.{Between, AllBetween, FirstOutside}

pub record FitLength (column : List ℤ) : Type 0 where
  pub some : 1 ≤ length column
  pub few : length column ≤ 120

-- what a life table can hold
pub record Fit (column : List ℤ) (factor : ℤ) : Type 0 where
  pub years : FitLength column
  pub discount : Between (pos 1) (pos million) factor
  pub shares : AllBetween (pos 0) (pos million) column

-- the first thing that is wrong with what is handed in
pub data Refuses (column : List ℤ) (factor : ℤ) (fault : Fault) : Type 0 where
  unfit_length : fault ≡ entry_fault 9 Basis 0 0 → (FitLength column → ⊥) → Refuses column factor fault
  unfit_factor : fault ≡ entry_fault 10 Basis 0 0 → FitLength column → (Between (pos 1) (pos million) factor → ⊥) → Refuses column factor fault
  unfit_share : (t : ℕ) → fault ≡ entry_fault 11 Basis t 0 → FitLength column → Between (pos 1) (pos million) factor → FirstOutside (pos 0) (pos million) column t → Refuses column factor fault
