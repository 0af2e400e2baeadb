-- Columns of benefits, marks and move benefits: which are fit, what they pay, and what is first wrong with others. Assumes nothing.
use Rattle.std.specs.Prelude.{◌≡◌, ℕ, ◌+◌, ◌*◌, ◌<◌, ◌≤◌, Bool, true, false, cond, ◌&&◌, List, length, ℤ, pos, ◌==◌, nat_le, nat_lt, slice_index_or, unsigned_abs}
use Rattle.units.specs.Columns.{AllBetween, FirstOutside}
use Rattle.units.specs.Faults.{entry_fault}
use Rattle.units.specs.Ranges.{limit}
use Rattle.units.specs.declared.amount.Amount.{Amount}
use Rattle.units.specs.declared.fault.Fault.{Fault}
use Rattle.units.specs.declared.fault.Layer.TheVariants.{Plan}
use Rattle.plan.specs.Payments.{Payments}

-- the place of state i in year t, and of the move from i to j in it
abbrev pub place : ℕ → ℕ → ℕ
place i t = t * 8 + i

abbrev pub move_place : ℕ → ℕ → ℕ → ℕ
move_place i j t = place i t * 8 + j

-- the entry at a place, as a number: a fit entry is not below 0
abbrev pub entry : List ℤ → ℕ → ℕ
entry column p = unsigned_abs (slice_index_or column p (pos 0))

-- benefits and marks up to year k, move benefits in the years below k, and nothing later
abbrev pub tabled : ℕ → List ℤ → List ℤ → List ℤ → Payments
tabled k benefits marks moves = record {
  benefit = λ i t. cond (nat_le t k && nat_lt i 8) (entry benefits (place i t)) 0;
  due = λ i t. nat_le t k && (nat_lt i 8 && entry marks (place i t) == 1);
  move_benefit = λ i j t. cond (nat_lt t k && (nat_lt i 8 && nat_lt j 8)) (entry moves (move_place i j t)) 0;
}

-- how a caller writes an amount and a mark
abbrev pub amount_entry : Amount → ℤ
amount_entry amount = pos amount.ticks

abbrev pub mark_entry : Bool → ℤ
mark_entry true = pos 1
mark_entry false = pos 0

pub record FitSize (k : ℕ) (benefits marks moves : List ℤ) : Type 0 where
  pub few : k ≤ 120
  pub benefit_places : length benefits ≡ 8 * (k + 1)
  pub mark_places : length marks ≡ 8 * (k + 1)
  pub move_places : length moves ≡ 64 * k

-- what a table of k years can hold
pub record Fit (k : ℕ) (benefits marks moves : List ℤ) : Type 0 where
  pub size : FitSize k benefits marks moves
  pub amounts : AllBetween (pos 0) (pos limit) benefits
  pub signs : AllBetween (pos 0) (pos 1) marks
  pub transfers : AllBetween (pos 0) (pos limit) moves

-- the fault of the first benefit or mark that is out of range
pub record UnfitPlace (high : ℤ) (column : List ℤ) (fault : Fault) : Type 0 where
  pub state : ℕ
  pub year : ℕ
  pub inside : state < 8
  pub first : FirstOutside (pos 0) high column (place state year)
  pub is : fault ≡ entry_fault 12 Plan year state

-- the fault of the first move benefit that is out of range, at the state that is left
pub record UnfitMove (moves : List ℤ) (fault : Fault) : Type 0 where
  pub from : ℕ
  pub to : ℕ
  pub year : ℕ
  pub inside_from : from < 8
  pub inside_to : to < 8
  pub first : FirstOutside (pos 0) (pos limit) moves (move_place from to year)
  pub is : fault ≡ entry_fault 12 Plan year from

-- the first thing that is wrong with what is handed in: the year or a length, then benefits, then marks, then moves
pub data Refuses (k : ℕ) (benefits marks moves : List ℤ) (fault : Fault) : Type 0 where
  unfit_size : fault ≡ entry_fault 12 Plan 0 0 → (FitSize k benefits marks moves → ⊥) → Refuses k benefits marks moves fault
  unfit_benefit : FitSize k benefits marks moves → UnfitPlace (pos limit) benefits fault → Refuses k benefits marks moves fault
  unfit_mark : FitSize k benefits marks moves → AllBetween (pos 0) (pos limit) benefits → UnfitPlace (pos 1) marks fault → Refuses k benefits marks moves fault
  unfit_move : FitSize k benefits marks moves → AllBetween (pos 0) (pos limit) benefits → AllBetween (pos 0) (pos 1) marks → UnfitMove moves fault → Refuses k benefits marks moves fault
