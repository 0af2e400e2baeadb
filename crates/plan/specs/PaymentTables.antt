-- The table plan: what it means, and what it holds. Assumes nothing.
use Rattle.std.specs.Prelude.{◌≡◌, ℕ, List, map, ℤ, Result, MatchResult, vec_items, vec_capacity}
use Rattle.units.specs.declared.fault.Fault.{Fault}
use Rattle.plan.specs.PaymentColumns.{tabled, amount_entry, mark_entry, Fit, Refuses}
use Rattle.plan.specs.Payments.{Payments}
use Rattle.plan.specs.declared.table.PaymentTable.{PaymentTable}

-- the columns of a table as a caller writes them
abbrev pub benefit_column : PaymentTable → List ℤ
benefit_column s = map amount_entry (vec_items s.benefits)

abbrev pub mark_column : PaymentTable → List ℤ
mark_column s = map mark_entry (vec_items s.marks)

abbrev pub move_column : PaymentTable → List ℤ
move_column s = map amount_entry (vec_items s.moves)

abbrev pub payment_table : PaymentTable → Payments
payment_table s = tabled s.years (benefit_column s) (mark_column s) (move_column s)

-- the table has exactly these years and columns
pub record Holds (s : PaymentTable) (k : ℕ) (benefits marks moves : List ℤ) : Type 0 where
  pub years : s.years ≡ k
  pub amounts : benefit_column s ≡ benefits
  pub signs : mark_column s ≡ marks
  pub transfers : move_column s ≡ moves

-- taking in: what is fit is held; of what is not the first fault is told, and the table stays
abbrev pub TakesIn : PaymentTable → PaymentTable → ℕ → List ℤ → List ℤ → List ℤ
    → Result (Unit {0}) Fault → Type 0
TakesIn old new k benefits marks moves result = MatchResult result
    (λ _. Fit k benefits marks moves × Holds new k benefits marks moves)
    (λ fault. (Fit k benefits marks moves → ⊥) × Refuses k benefits marks moves fault
    × (new ≡ old))

-- the table has the memory that it had
pub record KeepsCapacity (old new : PaymentTable) : Type 0 where
  pub benefits : vec_capacity new.benefits ≡ vec_capacity old.benefits
  pub marks : vec_capacity new.marks ≡ vec_capacity old.marks
  pub moves : vec_capacity new.moves ≡ vec_capacity old.moves
