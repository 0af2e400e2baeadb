-- The annuity: what it means, and what it holds. Assumes nothing.
use Rattle.std.specs.Prelude.{◌≡◌, ℕ, cond, ◌&&◌, ℤ, pos, ◌==◌, nat_le, nat_lt}
use Rattle.plan.specs.Payments.{Payments}
use Rattle.plan.specs.declared.annuity.Annuity.{Annuity}

-- the amount is paid in one state in the years from `first` up to but not including `end`;
-- the premium is due in state 0 in the paying years
abbrev pub yearly : ℕ → ℕ → ℕ → ℕ → ℕ → Payments
yearly amount state first end paying_years = record {
  benefit = λ i t. cond (i == state && (nat_le first t && nat_lt t end)) amount 0;
  due = λ i t. (i == 0) && nat_lt t paying_years;
  move_benefit = λ i j t. 0;
}

abbrev pub annuity : Annuity → Payments
annuity s = yearly s.amount.ticks s.state s.first s.end s.paying_years

-- the annuity is of exactly this amount, state and years
pub record Holds (s : Annuity) (amount : ℤ) (state first end paying_years : ℕ) : Type 0 where
  pub ticks : pos s.amount.ticks ≡ amount
  pub recipient : s.state ≡ state
  pub begins : s.first ≡ first
  pub ends : s.end ≡ end
  pub paying : s.paying_years ≡ paying_years
