-- The age shift: any basis, some years on. Assumes nothing.
use Rattle.std.specs.Prelude.{ℕ, ◌+◌, ◌-◌, min, cond, nat_lt}
use Rattle.units.specs.Ranges.{million}
use Rattle.basis.specs.Transitions.{Transitions}

-- a basis from its year `first` on
abbrev pub later : Transitions → ℕ → Transitions
later c first = record {
  states = c.states;
  years = c.years - first;
  factor = λ t. cond (nat_lt t (c.years - first)) (c.factor (t + first)) million;
  share = λ i j t. cond (nat_lt t (c.years - first)) (c.share i j (t + first)) 0;
}

-- the year below at which a shift begins: one year is always left
abbrev pub first_year : Transitions → ℕ → ℕ
first_year c by = min by (c.years - 1)

abbrev pub shifted : Transitions → ℕ → Transitions
shifted c by = later c (first_year c by)
