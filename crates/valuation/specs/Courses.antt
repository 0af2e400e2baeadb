-- The course: the reserves of all states from a year on, in a column. Assumes nothing.
use Rattle.std.specs.Prelude.{◌≡◌, ℕ, ◌+◌, ◌-◌, ◌*◌, ◌<◌, ◌≤◌, List, length, ℤ, pos, slice_index_or}
use Rattle.units.specs.declared.fault.Fault.{Fault}
use Rattle.units.specs.declared.fault.Layer.TheVariants.{Contract}
use Rattle.units.specs.Faults.{entry_fault}
use Rattle.basis.specs.Transitions.{Transitions}
use Rattle.plan.specs.Payments.{Payments}
use Rattle.valuation.specs.Reserves.{reserve}

-- a row of all states for each year from t to n, which are none where t is past n
abbrev pub course_length : Transitions → ℕ → ℕ
course_length c t = (c.years + 1 - t) * c.states

-- a column, as it was and as it is with the course from year t on in it
pub record Writes (c : Transitions) (p : Payments) (premium t : ℕ) (old new : List ℤ) : Type 0 where
  pub fits : course_length c t ≤ length old
  pub as_long : length new ≡ length old
  pub rows : (i u : ℕ) → i < c.states → t ≤ u → u ≤ c.years → slice_index_or new ((u - t) * c.states + i) (pos 0) ≡ reserve c p premium i u
  pub no_later_entry : (k : ℕ) → course_length c t ≤ k → slice_index_or new k (pos 0) ≡ slice_index_or old k (pos 0)

-- a column that is too short for it stays as it was
pub record Refuses (c : Transitions) (t : ℕ) (old new : List ℤ) (fault : Fault) : Type 0 where
  pub too_short : length old < course_length c t
  pub unchanged : new ≡ old
  pub told : fault ≡ entry_fault 22 Contract t 0
