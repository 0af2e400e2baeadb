-- Contracts that compare, and what they are valued at. Assumes nothing.
use Rattle.std.specs.Prelude.{◌≡◌, ℕ, ◌<◌, ◌≤◌, List, ℤ}
use Rattle.basis.specs.Transitions.{Transitions}
use Rattle.plan.specs.Payments.{Payments}
use Rattle.valuation.specs.Operations.{EndByEnd}

-- in all states of the basis the plan `more` at its premium pays at least as much as the plan `less` at its: benefits of years t to n,
-- move benefits and marks of years t to n - 1
pub record PaysAtLeastAsMuch (c : Transitions) (t : ℕ) (less : Payments) (dearer : ℕ) (more : Payments) (cheaper : ℕ) : Type 0 where
  pub premiums : cheaper ≤ dearer
  pub benefits : (i u : ℕ) → i < c.states → t ≤ u → u ≤ c.years → less.benefit i u ≤ more.benefit i u
  pub marks : (i u : ℕ) → i < c.states → t ≤ u → u < c.years → less.due i u ≡ more.due i u
  pub move_benefits : (i j u : ℕ) → i < c.states → j < c.states → t ≤ u → u < c.years → less.move_benefit i j u ≤ more.move_benefit i j u

-- `value p premium i t` is what a contract is worth in state i and year t
module _ {F : Type 0} (ends : F → List ℤ) (c : Transitions) (value : Payments → ℕ → ℕ → ℕ → F) where
  -- who pays at least as much from some year on is nowhere valued lower from then on
  abbrev pub NowhereValuedLower : Type 0
  NowhereValuedLower =
      (t : ℕ) (less : Payments) (dearer : ℕ) (more : Payments) (cheaper : ℕ) → PaysAtLeastAsMuch c t less dearer more cheaper →
      (i u : ℕ) → i < c.states → t ≤ u → u ≤ c.years →
      EndByEnd ends (value less dearer i u) (value more cheaper i u)

  -- a higher premium raises no value, in any state and year
  abbrev pub NeverRaisedByPremium : Type 0
  NeverRaisedByPremium =
      (p : Payments) (lower higher : ℕ) → lower ≤ higher → (i t : ℕ) →
      EndByEnd ends (value p higher i t) (value p lower i t)
