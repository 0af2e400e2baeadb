-- The life basis: what it means, and what it holds. Assumes nothing.
use Rattle.std.specs.Prelude.{◌≡◌, ℕ, ◌-◌, cond, List, map, length, ℤ, pos, Result, MatchResult, vec_items, vec_capacity, ◌==◌, nat_lt, slice_index}
use Rattle.units.specs.Ranges.{million}
use Rattle.units.specs.declared.fault.Fault.{Fault}
use Rattle.basis.specs.LifeColumns.{Fit, Refuses}
use Rattle.basis.specs.Transitions.{Transitions}
use Rattle.basis.specs.declared.life.LifeTable.{LifeTable}

-- the share of a move in a year in which q of a million die
abbrev pub life_share : ℕ → ℕ → ℕ → ℕ
life_share q i j =
    cond (i == 0) (cond (j == 0) (million - q) (cond (j == 1) q 0)) (cond (i == 1) (cond (j == 1) million 0) 0)

-- two states, as many years as there are death shares, and one factor
abbrev pub lives : List ℕ → ℕ → Transitions
lives deaths factor = record {
  states = 2;
  years = length deaths;
  factor = λ t. cond (nat_lt t (length deaths)) factor million;
  share = λ i j t. cond (nat_lt t (length deaths)) (life_share (slice_index deaths t) i j) 0;
}

abbrev pub life_table : LifeTable → Transitions
life_table s = lives (vec_items s.deaths) s.factor

-- the table has exactly the death shares of a column, and a factor
pub record Holds (s : LifeTable) (column : List ℤ) (factor : ℤ) : Type 0 where
  pub deaths : map pos (vec_items s.deaths) ≡ column
  pub discount : pos s.factor ≡ factor

-- taking in: what is fit is held; of what is not the first fault is told, and the table stays
abbrev pub TakesIn : LifeTable → LifeTable → List ℤ → ℤ → Result (Unit {0}) Fault → Type 0
TakesIn old new column factor result = MatchResult result
    (λ _. Fit column factor × Holds new column factor)
    (λ fault. (Fit column factor → ⊥) × Refuses column factor fault × (new ≡ old))

-- the table has the memory that it had
abbrev pub KeepsCapacity : LifeTable → LifeTable → Type 0
KeepsCapacity old new = vec_capacity new.deaths ≡ vec_capacity old.deaths
