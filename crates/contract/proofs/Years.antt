-- What is told of a year that is closed, from what the closing works from. Assumes nothing.
use Rattle.std.proofs.Common.{◌≡◌, ℕ, ◌+◌, ◌<◌, ℤ, pos, ◌-ℤ◌, ◌*ℤ◌, ap}
use Rattle.basis.specs.Transitions.{Transitions}
use Rattle.basis.specs.declared.Basis.{Ghosts as BasisGhosts}
use Rattle.plan.specs.Payments.{Payments}
use Rattle.valuation.specs.Closings.{ClosingValues, IsMove, AreClosingValues}
use Rattle.valuation.specs.declared.closing.Move.{Move}
use Rattle.contract.specs.Standings.{Standing, moved, reserve_at}
use Rattle.contract.specs.Steps.{ClosedYear, rounded_interest, premium_taken, benefits_paid, interest_earned, interest_result, risk_result, closed_year}

-- the values of a move, where it leads from and to
pub values_of_move : {B : Type 0} {b : BasisGhosts B} (step : Move B b) (basis : B) (i j t : ℕ) (p : Payments) (premium : ℕ) (values : (ℤ × ℤ) × ℤ) → IsMove step basis i j t → AreClosingValues step p premium values → ClosingValues (b.meaning basis) p premium i t j values.0.0 values.0.1 values.1
values_of_move step basis i j t p premium values move are = simp (move.on_basis, move.out_of, move.into, move.in_year) at are

-- a move that there is has a share of its state
pub share_of_move : {B : Type 0} {b : BasisGhosts B} (step : Move B b) (basis : B) (i j t : ℕ) → IsMove step basis i j t → 0 < (b.meaning basis).share i j t
share_of_move step basis i j t move = simp (move.on_basis, move.out_of, move.into, move.in_year) at step.possible

-- two years of which the same is told are the same
same_year : (k h : ClosedYear) → k.number ≡ h.number → k.year ≡ h.year → k.premium ≡ h.premium → k.benefits ≡ h.benefits → k.interest_earned ≡ h.interest_earned → k.interest_result ≡ h.interest_result → k.risk_result ≡ h.risk_result → k.reserve ≡ h.reserve → k ≡ h
same_year k h number year premium benefits earned interest risk reserve =
    let a : ClosedYear = record { number = k.number; year = k.year; premium = k.premium; benefits = k.benefits; interest_earned = k.interest_earned; interest_result = k.interest_result; risk_result = k.risk_result; reserve = k.reserve } in
    let b : ClosedYear = record { number = h.number; year = h.year; premium = h.premium; benefits = h.benefits; interest_earned = h.interest_earned; interest_result = h.interest_result; risk_result = h.risk_result; reserve = h.reserve } in
    let same : a ≡ b = cc in
    same

module _ (c : Transitions) (s : Standing) (end : ℕ) (rate : ℤ) where
  pub year_is : (present expected later : ℤ) → ClosingValues c s.plan s.premium s.state s.year end present expected later → (year : ClosedYear) (benefit : ℕ) → year.number ≡ s.number + 1 → year.year ≡ s.year → year.premium ≡ premium_taken s → year.benefits ≡ benefits_paid s end → benefit ≡ s.plan.move_benefit s.state end s.year → year.interest_earned ≡ rounded_interest (present *ℤ rate) → year.interest_result ≡ year.interest_earned -ℤ (expected -ℤ present) → year.risk_result ≡ (expected -ℤ pos benefit) -ℤ later → year.reserve ≡ later → year ≡ closed_year c s end rate
  year_is present expected later values year benefit counts now taken paid moves earns posts risks stays =
      let earned : year.interest_earned ≡ interest_earned c s rate = cc in
      let on_interest : year.interest_result ≡ interest_result c s rate = cc in
      let on_risk : year.risk_result ≡ risk_result c s end = cc in
      let after : year.reserve ≡ reserve_at c (moved s end) = cc in
      same_year year (closed_year c s end rate) counts now taken paid earned on_interest on_risk after

  pub reserve_of_year : (year : ClosedYear) → year ≡ closed_year c s end rate → year.reserve ≡ reserve_at c (moved s end)
  reserve_of_year year is = ap (λ k. k.reserve) is
