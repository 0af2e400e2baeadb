-- Columns of factors and shares over several states: which are fit, and what is first wrong with others. Assumes nothing.
use Rattle.std.specs.Prelude.{◌≡◌, ℕ, ◌+◌, ◌*◌, ◌<◌, ◌≤◌, List, length, take, drop, ℤ, pos}
use Rattle.units.specs.Columns.{AllBetween, FirstOutside}
use Rattle.units.specs.Faults.{entry_fault}
use Rattle.units.specs.Ranges.{million}
use Rattle.units.specs.Sums.{int_sum_by}
use Rattle.units.specs.declared.fault.Fault.{Fault}
use Rattle.units.specs.declared.fault.Layer.TheVariants.{Basis}

-- among m states, the number of the row of state i in year t, and the place of the share of a move to j
abbrev pub row_number : ℕ → ℕ → ℕ → ℕ
row_number m i t = t * m + i

abbrev pub place : ℕ → ℕ → ℕ → ℕ → ℕ
place m i j t = row_number m i t * m + j

-- the m entries of a row
abbrev pub row : ℕ → List ℤ → ℕ → List ℤ
row m shares r = take m (drop (r * m) shares)

-- everybody in a state goes somewhere
pub record LawfulRow (shares : List ℤ) : Type 0 where
  pub range : AllBetween (pos 0) (pos million) shares
  pub whole : int_sum_by (λ z. z) shares ≡ pos million

-- every row below a number is lawful
abbrev pub LawfulBelow : ℕ → List ℤ → ℕ → Type 0
LawfulBelow m shares below = (r : ℕ) → r < below → LawfulRow (row m shares r)

-- the row of state i in year t is lawful, and the rows of all states and years are
abbrev pub LawfulAt : ℕ → List ℤ → ℕ → ℕ → Type 0
LawfulAt m shares i t = LawfulRow (row m shares (row_number m i t))

abbrev pub LawfulRows : ℕ → ℕ → List ℤ → Type 0
LawfulRows m n shares = (i t : ℕ) → i < m → t < n → LawfulAt m shares i t

pub record FitSize (m n : ℕ) (factors shares : List ℤ) : Type 0 where
  pub least_states : 2 ≤ m
  pub most_states : m ≤ 8
  pub least_years : 1 ≤ n
  pub most_years : n ≤ 120
  pub factor_places : length factors ≡ n
  pub share_places : length shares ≡ n * m * m

-- what a table of m states and n years can hold
pub record Fit (m n : ℕ) (factors shares : List ℤ) : Type 0 where
  pub size : FitSize m n factors shares
  pub discount : AllBetween (pos 1) (pos million) factors
  pub rows : LawfulRows m n shares

-- the row of state i in year t is unlawful, and every row of an earlier year and of a lower state in that year is lawful
pub record FirstUnlawful (m n : ℕ) (shares : List ℤ) (i t : ℕ) : Type 0 where
  pub inside_state : i < m
  pub inside_year : t < n
  pub unlawful : LawfulAt m shares i t → ⊥
  pub years_before : (h u : ℕ) → h < m → u < t → LawfulAt m shares h u
  pub states_before : (h : ℕ) → h < i → LawfulAt m shares h t

-- the fault of the first factor that is out of range
pub record UnfitFactor (factors : List ℤ) (fault : Fault) : Type 0 where
  pub year : ℕ
  pub first : FirstOutside (pos 1) (pos million) factors year
  pub is : fault ≡ entry_fault 10 Basis year 0

-- the fault of the first row that is unlawful
pub record UnfitRow (m n : ℕ) (shares : List ℤ) (fault : Fault) : Type 0 where
  pub state : ℕ
  pub year : ℕ
  pub first : FirstUnlawful m n shares state year
  pub is : fault ≡ entry_fault 11 Basis year state

-- the first thing that is wrong with what is handed in
pub data Refuses (m n : ℕ) (factors shares : List ℤ) (fault : Fault) : Type 0 where
  unfit_size : fault ≡ entry_fault 9 Basis 0 0 → (FitSize m n factors shares → ⊥) → Refuses m n factors shares fault
  unfit_factor : FitSize m n factors shares → UnfitFactor factors fault → Refuses m n factors shares fault
  unfit_row : FitSize m n factors shares → AllBetween (pos 1) (pos million) factors → UnfitRow m n shares fault → Refuses m n factors shares fault
