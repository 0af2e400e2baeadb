-- A case: what is proposed, what is asked of the contract then, and what comes of it. Assumes
-- nothing.
use Rattle.std.specs.Prelude.{◌≡◌, ℕ, ◌+◌, ◌<◌, Bool, List, ◌++◌, length, map, ℤ, Result, Ok, Err, vec_items, vec_len, vec_capacity}
use Rattle.std.specs.Global.{Vec}
use Rattle.units.specs.declared.failure.Failure.{Failure}
use Rattle.units.specs.declared.failure.Failure.TheVariants.{Refused, NoMemory}
use Rattle.units.specs.declared.fault.Fault.{Fault}
use Rattle.basis.specs.Transitions.{Transitions}
use Rattle.basis.specs.declared.Basis.{Ghosts as BasisGhosts}
use Rattle.plan.specs.Payments.{Payments}
use Rattle.plan.specs.declared.Plan.{Ghosts as PlanGhosts}
use Rattle.valuation.specs.Operations.{Operations}
use Rattle.contract.specs.Calls.{asked, said}
use Rattle.contract.specs.ContractStates.{basis_of, standing, ledger_of, leaving_told}
use Rattle.contract.specs.Promises.{IsWholeRun, Settled}
use Rattle.contract.specs.Runs.{Ends, End as LedgerEnd, Stands as LedgerStands, Left as LedgerLeft}
use Rattle.contract.specs.Standings.{Terms, Books, AreTerms, IsPriced, NotIssued, begun, opening_result, reserve_at}
use Rattle.contract.specs.declared.answer.Answer.{Answer}
use Rattle.contract.specs.declared.case.Case.{Case}
use Rattle.contract.specs.declared.case.End.{End}
use Rattle.contract.specs.declared.case.End.TheVariants.{Stands, Left}
use Rattle.contract.specs.declared.case.Issued.{Issued}
use Rattle.contract.specs.declared.case.Run.{Run}
use Rattle.contract.specs.declared.contract.Contract.{Contract}

-- what is issued on a plan, in a start state and on a deposit, at a premium
abbrev pub terms_at : Payments → ℕ → ℤ → ℕ → Terms
terms_at plan start deposit premium = record {
  plan = plan;
  premium = premium;
  start = start;
  deposit = deposit;
}

module _ (c : Transitions) where
  -- the premium that a contract is issued at, where one is issued
  pub record IsIssuedAt (plan : Payments) (start : ℕ) (deposit : ℤ) (premium : ℕ) : Type 0 where
    pub terms : AreTerms c (terms_at plan start deposit premium)
    pub priced : IsPriced c (terms_at plan start deposit premium)

-- what a case is issued on, at a premium
abbrev pub terms_of_case : {P : Type 0} → (P → Payments) → Case P → ℕ → Terms
terms_of_case payments case premium =
    terms_at (payments case.plan) case.start case.deposit premium

module _ {P : Type 0} (c : Transitions) (payments : P → Payments) (case : Case P) where
  -- nothing is issued; or there is no memory for the answers, which can be only of a case that is
  -- issued, and only where there was no room for them
  pub data NotRun (capacity taken : ℕ) : Failure → Type 0 where
    not_issued :
        {fault : Fault} → NotIssued c (payments case.plan) case.start case.deposit fault →
        NotRun capacity taken (Refused fault)
    no_memory :
        {premium : ℕ} → IsIssuedAt c (payments case.plan) case.start case.deposit premium →
        capacity < taken + length (vec_items case.requests) → NotRun capacity taken NoMemory

module _ {B P : Type 0} {b : BasisGhosts B} {p : PlanGhosts P} where
  -- a contract on a basis, as it is issued at the least premium
  pub record IsIssued (basis : B) (plan : P) (start : ℕ) (deposit : ℤ)
      (issued : Issued B P b p) : Type 0 where
    pub same_basis : issued.contract.basis.now ≡ basis
    pub issued_at :
        IsIssuedAt (b.meaning basis) (p.payments plan) start deposit issued.premium.ticks
    pub stands :
        standing issued.contract
        ≡ begun (terms_at (p.payments plan) start deposit issued.premium.ticks)
    pub reserve :
        issued.reserve
        ≡ reserve_at (b.meaning basis)
        (begun (terms_at (p.payments plan) start deposit issued.premium.ticks))
    pub opening :
        issued.opening_result
        ≡ opening_result (b.meaning basis)
        (terms_at (p.payments plan) start deposit issued.premium.ticks)

  -- it is issued, or else nothing is
  abbrev pub IssuesOn : B → P → ℕ → ℤ → Result (Issued B P b p) Fault → Type 0
  IssuesOn basis plan start deposit (Ok issued) = IsIssued basis plan start deposit issued
  IssuesOn basis plan start deposit (Err fault) =
      NotIssued (b.meaning basis) (p.payments plan) start deposit fault

  -- the engine's end of a run is that of the ledger: a contract on its basis that stands where the
  -- ledger does, or what was told on leaving
  abbrev pub EndsAs : B → End B P b p → LedgerEnd → Type 0
  EndsAs basis (Stands contract) (LedgerStands l) =
      (contract.basis.now ≡ basis) × (standing contract ≡ l.stands)
  EndsAs basis (Stands contract) (LedgerLeft k books) = ⊥
  EndsAs basis (Left left) (LedgerStands l) = ⊥
  EndsAs basis (Left left) (LedgerLeft k books) = leaving_told left ≡ k

  -- how a contract, whatever its books, is left at last, or stands
  abbrev pub Finishes : Contract B P b p → Bool → End B P b p → Type 0
  Finishes k leaves end =
      (books : Books) → (e : LedgerEnd) ×
      Ends (basis_of k) (ledger_of (standing k) books) leaves e × EndsAs k.basis.now end e

  module _ {F : Type 0} (v : Operations F) (basis : B) (case : Case P) where
    -- what a run was issued on
    abbrev pub terms_of_run : Run B P b p → Terms
    terms_of_run run = terms_of_case p.payments case run.premium.ticks

    -- the contract was issued at the least premium, gave its answers behind those that were there,
    -- and the run has come to its end, with books that balance and are what it answered
    pub record IsRun (before after : List (Answer F)) (run : Run B P b p) : Type 0 where
      pub priced : IsPriced (b.meaning basis) (terms_of_run run)
      pub opening : run.opening_result ≡ opening_result (b.meaning basis) (terms_of_run run)
      pub answers : List (Answer F)
      pub behind : after ≡ before ++ answers
      pub end : LedgerEnd
      pub whole_run :
          IsWholeRun (b.meaning basis) v (terms_of_run run)
          (map (asked p.payments) (vec_items case.requests)) (map said answers)
          case.leaves end
      pub settled : Settled (b.meaning basis) (terms_of_run run) (map said answers) end
      pub ends : EndsAs basis run.end end

    abbrev pub RunsCase : Vec (Answer F) → Vec (Answer F) → Result (Run B P b p) Failure → Type 0
    RunsCase before after (Ok run) = IsRun (vec_items before) (vec_items after) run
    RunsCase before after (Err failure) =
        NotRun (b.meaning basis) p.payments case (vec_capacity before) (vec_len before) failure
