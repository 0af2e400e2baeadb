-- The bracket of the search for the least premium. Assumes nothing.
use Rattle.std.specs.Prelude.{◌≡◌, ℕ, ◌+◌, ◌-◌, ◌<◌, ◌≤◌, ◌⊎◌, ◌≤ℤ◌, ◌<ℤ◌}
use Rattle.basis.specs.Transitions.{Transitions}
use Rattle.plan.specs.Payments.{Payments}
use Rattle.valuation.specs.Reserves.{reserve}
use Rattle.valuation.specs.declared.pricing.priced.Priced.{Priced}
use Rattle.valuation.specs.declared.pricing.bracket.Bracket.{Bracket}

-- how far the ends are apart
abbrev pub width_of : Bracket → ℕ
width_of b = b.high.premium.ticks - b.low.premium.ticks

-- a premium between the ends, at most so far from either
pub record IsInside (b : Bracket) (reach premium : ℕ) : Type 0 where
  pub above_low : b.low.premium.ticks < premium
  pub below_high : premium < b.high.premium.ticks
  pub near_low : premium ≤ b.low.premium.ticks + reach
  pub near_high : b.high.premium.ticks ≤ premium + reach

-- what was tried is the upper end where its reserve is not above the bound, and else the lower
pub record Narrows (old : Bracket) (tried : Priced) (new : Bracket) : Type 0 where
  pub same_bound : new.bound ≡ old.bound
  pub ends : ((tried.reserve ≤ℤ old.bound) × (new.low ≡ old.low) × (new.high ≡ tried))
      ⊎ ((old.bound <ℤ tried.reserve) × (new.low ≡ tried) × (new.high ≡ old.high))

-- each end has the reserve at its premium, in state i and year t
pub record HasReserves (c : Transitions) (p : Payments) (i t : ℕ) (b : Bracket) : Type 0 where
  pub at_low : b.low.reserve ≡ reserve c p b.low.premium.ticks i t
  pub at_high : b.high.reserve ≡ reserve c p b.high.premium.ticks i t
