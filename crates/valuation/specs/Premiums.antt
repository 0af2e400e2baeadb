-- The least premium. Assumes nothing.
use Rattle.std.specs.Prelude.{◌≡◌, ℕ, ◌<◌, ◌≤◌, ℤ, ◌≤ℤ◌}
use Rattle.units.specs.declared.fault.Fault.{Fault}
use Rattle.units.specs.declared.fault.Layer.TheVariants.{Contract}
use Rattle.units.specs.Faults.{entry_fault}
use Rattle.units.specs.Ranges.{limit}
use Rattle.basis.specs.Transitions.{Transitions}
use Rattle.plan.specs.Payments.{Payments}
use Rattle.valuation.specs.Reserves.{reserve}

-- at this premium the reserve in state i and year t is not above the bound
abbrev pub Suffices : Transitions → Payments → ℕ → ℕ → ℤ → ℕ → Type 0
Suffices c p i t bound premium = reserve c p premium i t ≤ℤ bound

pub record LeastPremium (c : Transitions) (p : Payments) (i t : ℕ) (bound : ℤ) (premium : ℕ) : Type 0 where
  pub in_range : premium ≤ limit
  pub suffices : Suffices c p i t bound premium
  pub no_lower : (lower : ℕ) → lower < premium → Suffices c p i t bound lower → ⊥

-- no premium in range suffices
pub record NoPremium (c : Transitions) (p : Payments) (i t : ℕ) (bound : ℤ) (fault : Fault) : Type 0 where
  pub none : (premium : ℕ) → premium ≤ limit → Suffices c p i t bound premium → ⊥
  pub told : fault ≡ entry_fault 20 Contract t i
