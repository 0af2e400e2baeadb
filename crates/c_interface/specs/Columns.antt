-- The columns that C hands in: which are fit, the contract that they stand for, and why no tables
-- are made of others. Assumes nothing.
use Rattle.std.specs.Prelude.{◌≡◌, ℕ, ◌≤◌, map, unsigned_abs, Result, IsOk, IsErr}
use Rattle.std.specs.declared.alloc.AllocError.{AllocError}
use Rattle.units.specs.declared.fault.Fault.{Fault}
use Rattle.basis.specs.Transitions.{Transitions}
use Rattle.basis.specs.TransitionColumns as transitions
use Rattle.basis.specs.TransitionTables as transition_tables
use Rattle.basis.specs.declared.table.TransitionTable.{TransitionTable}
use Rattle.plan.specs.Payments.{Payments}
use Rattle.plan.specs.PaymentColumns as payments
use Rattle.plan.specs.PaymentTables as payment_tables
use Rattle.plan.specs.declared.table.PaymentTable.{PaymentTable}
use Rattle.c_interface.specs.declared.columns.Columns.{Columns}
use Rattle.c_interface.specs.declared.columns.Tables.{Tables}

-- the basis and the plan of columns that fit
abbrev pub basis_of : Columns → Transitions
basis_of c = transition_tables.tabled c.states
    (map unsigned_abs c.factors.now) (map unsigned_abs c.shares.now)

abbrev pub plan_of : Columns → Payments
plan_of c = payments.tabled c.plan_years c.benefits.now c.marks.now c.moves.now

-- what tables are made of
pub record FitColumns (c : Columns) : Type 0 where
  pub basis : transitions.Fit c.states c.years c.factors.now c.shares.now
  pub plan : payments.Fit c.plan_years c.benefits.now c.marks.now c.moves.now

-- these tables are what the columns stand for
pub record Made (c : Columns) (s : TransitionTable) (p : PaymentTable) : Type 0 where
  pub fit : FitColumns c
  pub basis : transition_tables.transition_table s ≡ basis_of c
  pub plan : payment_tables.payment_table p ≡ plan_of c

-- the first fault of columns: those of the basis come first
pub data Refuses (c : Columns) (fault : Fault) : Type 0 where
  of_basis : transitions.Refuses c.states c.years c.factors.now c.shares.now fault → Refuses c fault
  of_plan : transitions.Fit c.states c.years c.factors.now c.shares.now
      → payments.Refuses c.plan_years c.benefits.now c.marks.now c.moves.now fault
      → Refuses c fault

-- what it comes to that memory is asked for both tables
abbrev pub Asked : Type 0
Asked = Result Tables AllocError

-- the number that tells why no tables are made of columns: 255 where memory is wanting, and only
-- there; or else that of a fault, from 9 to 12
pub data Stops (asked : Asked) (c : Columns) (number : ℕ) : Type 0 where
  no_memory : IsErr asked → number ≡ 255 → Stops asked c number
  refused : (fault : Fault) → IsOk asked → number ≡ fault.number → 9 ≤ number → number ≤ 12
      → Refuses c fault → Stops asked c number
