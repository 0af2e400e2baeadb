-- Proposals: the terms that one would be issued on, and what is done to it. Assumes nothing.
use Rattle.std.specs.Prelude.{◌≡◌, ℕ, ◌<◌, ◌≤◌, ℤ, pos, Result, Ok, Err}
use Rattle.units.specs.Faults.{entry_fault}
use Rattle.units.specs.Ranges.{WithinLimit}
use Rattle.units.specs.declared.fault.Fault.{Fault}
use Rattle.units.specs.declared.fault.Layer.TheVariants.{Contract as ContractLayer}
use Rattle.units.specs.declared.amount.Amount.{Amount}
use Rattle.basis.specs.Transitions.{Transitions}
use Rattle.basis.specs.declared.Basis.{Ghosts as BasisGhosts}
use Rattle.plan.specs.Payments.{Payments}
use Rattle.plan.specs.declared.Plan.{Ghosts as PlanGhosts}
use Rattle.valuation.specs.Premiums.{LeastPremium, NoPremium}
use Rattle.contract.specs.ContractStates.{standing}
use Rattle.contract.specs.Standings.{Terms, AreTerms, issued}
use Rattle.contract.specs.declared.case.Issued.{Issued}
use Rattle.contract.specs.declared.proposal.Proposal.{Proposal}

-- the terms of a new proposal, and terms with one of them set
abbrev pub begins_with : Payments → Terms
begins_with plan = record { plan = plan; premium = 0; start = 0; deposit = pos 0 }

abbrev pub placed_in : ℕ → Terms → Terms
placed_in start x = record {
  plan = x.plan;
  premium = x.premium;
  start = start;
  deposit = x.deposit;
}

abbrev pub deposited : ℤ → Terms → Terms
deposited deposit x = record {
  plan = x.plan;
  premium = x.premium;
  start = x.start;
  deposit = deposit;
}

abbrev pub priced_at : ℕ → Terms → Terms
priced_at premium x = record {
  plan = x.plan;
  premium = premium;
  start = x.start;
  deposit = x.deposit;
}

module _ {B P : Type 0} {b : BasisGhosts B} {p : PlanGhosts P} where
  -- the basis of a proposal, and the terms that it would be issued on
  abbrev pub basis_proposed : Proposal B P b p → Transitions
  basis_proposed o = b.meaning o.basis.now

  abbrev pub terms_of : Proposal B P b p → Terms
  terms_of o = record {
    plan = p.payments o.plan;
    premium = o.premium.ticks;
    start = o.start;
    deposit = pos o.deposit.ticks;
  }

  -- the proposal with another premium
  abbrev pub bearing : Amount → Proposal B P b p → Proposal B P b p
  bearing premium o = record o { premium = premium }

  -- the reserve that a contract would be issued with
  abbrev pub reserve_proposed : Proposal B P b p → ℤ
  reserve_proposed o = (issued (basis_proposed o) (terms_of o)).books.carried

  -- on the same basis it now has these terms
  pub record Takes (old : Proposal B P b p) (terms : Terms) (new : Proposal B P b p) : Type 0 where
    pub same_basis : new.basis ≡ old.basis
    pub takes : terms_of new ≡ terms

  -- a rule is told at year 0 and the start state, and nothing changes
  pub record Refuses (old : Proposal B P b p) (number : ℕ) (fault : Fault)
      (new : Proposal B P b p) : Type 0 where
    pub told : fault ≡ entry_fault number ContractLayer 0 old.start
    pub unchanged : new ≡ old

  -- placing: in a state of the basis, or else 14
  abbrev pub Places :
      {X : Type 0} → Proposal B P b p → ℕ → Result X Fault → Proposal B P b p → Type 0
  Places old start (Ok _) new =
      (start < (basis_proposed old).states) × Takes old (placed_in start (terms_of old)) new
  Places old start (Err fault) new =
      ((basis_proposed old).states ≤ start) × Refuses old 14 fault new

  -- depositing: an amount from nought to the limit, or else 15
  abbrev pub Deposits :
      {X : Type 0} → Proposal B P b p → ℤ → Result X Fault → Proposal B P b p → Type 0
  Deposits old ticks (Ok _) new =
      WithinLimit ticks × Takes old (deposited ticks (terms_of old)) new
  Deposits old ticks (Err fault) new = (WithinLimit ticks → ⊥) × Refuses old 15 fault new

  -- pricing: at the least premium at which the reserve is not above the deposit, or else 20
  abbrev pub LeastOf : Proposal B P b p → ℕ → Type 0
  LeastOf o premium =
      LeastPremium (basis_proposed o) (p.payments o.plan) o.start 0 (pos o.deposit.ticks) premium

  abbrev pub NoneOf : Proposal B P b p → Fault → Type 0
  NoneOf o fault =
      NoPremium (basis_proposed o) (p.payments o.plan) o.start 0 (pos o.deposit.ticks) fault

  abbrev pub Prices : Proposal B P b p → Result Amount Fault → Proposal B P b p → Type 0
  Prices old (Ok premium) new =
      LeastOf old premium.ticks × Takes old (priced_at premium.ticks (terms_of old)) new
  Prices old (Err fault) new = NoneOf old fault × Refuses old 20 fault new

  -- issuing: a contract on the same basis, which stands where the ledger of such terms begins, with
  -- its premium and reserve and the opening result
  pub record Issues (o : Proposal B P b p) (made : Issued B P b p) : Type 0 where
    pub same_basis : made.contract.basis.now ≡ o.basis.now
    pub are_terms : AreTerms (basis_proposed o) (terms_of o)
    pub stands : standing made.contract ≡ (issued (basis_proposed o) (terms_of o)).stands
    pub premium : made.premium.ticks ≡ (terms_of o).premium
    pub reserve : made.reserve ≡ (issued (basis_proposed o) (terms_of o)).books.carried
    pub opening : made.opening_result ≡ (issued (basis_proposed o) (terms_of o)).books.results

  -- pricing, and issuing at the premium that is found
  pub record IssuesAtLeastPremium (o : Proposal B P b p) (made : Issued B P b p) : Type 0 where
    pub least : LeastOf o made.premium.ticks
    pub issues : Issues (bearing made.premium o) made
