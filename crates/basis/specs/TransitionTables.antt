-- The table basis: what it means, and what it holds. Assumes nothing.
use Rattle.std.specs.Prelude.{◌≡◌, ℕ, cond, ◌&&◌, List, map, length, ℤ, pos, Result, MatchResult, vec_items, vec_capacity, nat_lt, slice_index}
use Rattle.units.specs.Ranges.{million}
use Rattle.units.specs.declared.fault.Fault.{Fault}
use Rattle.basis.specs.TransitionColumns.{place, Fit, Refuses}
use Rattle.basis.specs.Transitions.{Transitions}
use Rattle.basis.specs.declared.table.TransitionTable.{TransitionTable}

-- m states, as many years as there are factors, and each share at its place
abbrev pub tabled : ℕ → List ℕ → List ℕ → Transitions
tabled m factors shares = record {
  states = m;
  years = length factors;
  factor = λ t. cond (nat_lt t (length factors)) (slice_index factors t) million;
  share = λ i j t. cond (nat_lt t (length factors) && (nat_lt i m && nat_lt j m)) (slice_index shares (place m i j t)) 0;
}

abbrev pub transition_table : TransitionTable → Transitions
transition_table s = tabled s.states (vec_items s.factors) (vec_items s.shares)

-- the table has exactly these states, factors and shares
pub record Holds (s : TransitionTable) (m : ℕ) (factors shares : List ℤ) : Type 0 where
  pub states : s.states ≡ m
  pub discount : map pos (vec_items s.factors) ≡ factors
  pub moves : map pos (vec_items s.shares) ≡ shares

-- taking in: what is fit is held; of what is not the first fault is told, and the table stays
abbrev pub TakesIn : TransitionTable → TransitionTable → ℕ → ℕ → List ℤ → List ℤ
    → Result (Unit {0}) Fault → Type 0
TakesIn old new m n factors shares result = MatchResult result
    (λ _. Fit m n factors shares × Holds new m factors shares)
    (λ fault. (Fit m n factors shares → ⊥) × Refuses m n factors shares fault × (new ≡ old))

-- the table has the memory that it had
pub record KeepsCapacity (old new : TransitionTable) : Type 0 where
  pub factors : vec_capacity new.factors ≡ vec_capacity old.factors
  pub shares : vec_capacity new.shares ≡ vec_capacity old.shares
