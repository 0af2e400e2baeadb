-- The endowment: what it means, and what it holds. Assumes nothing.
use Rattle.std.specs.Prelude.{◌≡◌, ℕ, cond, ◌&&◌, ℤ, pos, ◌==◌, nat_lt}
use Rattle.plan.specs.Payments.{Payments}
use Rattle.plan.specs.declared.endowment.Endowment.{Endowment}

-- the sum is paid on the move from 0 to 1 in a year below the term, or in state 0 at the term;
-- the premium is due in state 0 in the paying years
abbrev pub endows : ℕ → ℕ → ℕ → Payments
endows sum term paying_years = record {
  benefit = λ i t. cond (i == 0 && t == term) sum 0;
  due = λ i t. (i == 0) && nat_lt t paying_years;
  move_benefit = λ i j t. cond (i == 0 && (j == 1 && nat_lt t term)) sum 0;
}

abbrev pub endowment : Endowment → Payments
endowment s = endows s.sum.ticks s.term s.paying_years

-- the endowment is of exactly this sum, term and number of paying years
pub record Holds (s : Endowment) (sum : ℤ) (term paying_years : ℕ) : Type 0 where
  pub amount : pos s.sum.ticks ≡ sum
  pub years : s.term ≡ term
  pub paying : s.paying_years ≡ paying_years
