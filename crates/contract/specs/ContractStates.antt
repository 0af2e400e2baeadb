-- The engine's contracts as the ledger has them. Assumes nothing.
use Rattle.std.specs.Prelude.{◌≡◌, ℕ, true, List, ℤ, pos, Result, Ok, Err}
use Rattle.units.specs.declared.fault.Fault.{Fault}
use Rattle.basis.specs.Transitions.{Transitions}
use Rattle.basis.specs.declared.Basis.{Ghosts as BasisGhosts}
use Rattle.plan.specs.declared.Plan.{Ghosts as PlanGhosts}
use Rattle.valuation.specs.Exact.{NearExact}
use Rattle.valuation.specs.Spans.{Encloses}
use Rattle.valuation.specs.declared.span.ends.Ends.{Ends as SpanEnds}
use Rattle.contract.specs.Ledgers.{Request, Answer, Entry, Refused, Altered, Closed, Written, NotWritten}
use Rattle.contract.specs.Runs.{Left, Ends}
use Rattle.contract.specs.Standings.{Standing, Books, Ledger}
use Rattle.contract.specs.Steps.{ClosedYear, Alteration, Leaving, books_after_leaving}
use Rattle.contract.specs.declared.answer.Altered.{Altered as AlteredStruct}
use Rattle.contract.specs.declared.answer.Closed.{Closed as ClosedStruct}
use Rattle.contract.specs.declared.answer.Left.{Left as LeftStruct}
use Rattle.contract.specs.declared.contract.Contract.{Contract}

abbrev pub ledger_of : Standing → Books → Ledger
ledger_of s b = record { stands = s; books = b }

-- what the answers of calls say
abbrev pub year_told : ClosedStruct → ClosedYear
year_told k = record {
  number = k.number;
  year = k.year;
  premium = k.premium;
  benefits = k.benefits;
  interest_earned = k.interest_earned;
  interest_result = k.interest_result;
  risk_result = k.risk_result;
  reserve = k.reserve;
}

abbrev pub alteration_told : AlteredStruct → Alteration
alteration_told k = record {
  number = k.number;
  premium = k.premium.ticks;
  result = k.result;
  reserve = k.reserve;
}

abbrev pub leaving_told : LeftStruct → Leaving
leaving_told k = record { paid = k.paid; result = k.result }

abbrev pub closing_said : Result ClosedStruct Fault → Answer
closing_said (Ok k) = Closed (year_told k)
closing_said (Err fault) = Refused fault

abbrev pub altering_said : Result AlteredStruct Fault → Answer
altering_said (Ok k) = Altered (alteration_told k)
altering_said (Err fault) = Refused fault

abbrev pub course_said : {X : Type 0} → Result X Fault → List ℤ → Answer
course_said (Ok _) column = Written column
course_said (Err fault) column = NotWritten fault column

module _ {B P : Type 0} {b : BasisGhosts B} {p : PlanGhosts P} where
  -- the basis that a contract stands in
  abbrev pub basis_of : Contract B P b p → Transitions
  basis_of k = b.meaning k.basis.now

  -- where a contract stands
  abbrev pub standing : Contract B P b p → Standing
  standing k = record {
    plan = p.payments k.plan;
    premium = k.premium.ticks;
    state = k.state;
    year = k.year;
    number = k.number;
  }

  -- an entry takes a contract, whatever its books, from where it stands to where it stands then, in
  -- the same basis
  pub record Enters (old : Contract B P b p) (q : Request) (a : Answer)
      (new : Contract B P b p) : Type 0 where
    pub same_basis : new.basis ≡ old.basis
    pub entry :
        (books : Books) → (then : Books) ×
        Entry (basis_of old) (ledger_of (standing old) books) q a (ledger_of (standing new) then)

  -- leaving takes a contract, whatever its books, to its end: what it tells is posted, and nothing
  -- is carried
  abbrev pub Leaves : Contract B P b p → LeftStruct → Type 0
  Leaves k left =
      (books : Books) →
      Ends (basis_of k) (ledger_of (standing k) books) true
      (Left (leaving_told left) (books_after_leaving books (leaving_told left)))

  -- a reserve is within a tick for each year left of the exact value
  abbrev pub IsNearExact : Contract B P b p → ℤ → Type 0
  IsNearExact k reserve =
      NearExact (basis_of k) (p.payments k.plan) k.premium.ticks k.state k.year reserve

  -- a span encloses the reserve
  abbrev pub EnclosesReserve : Contract B P b p → SpanEnds → Type 0
  EnclosesReserve k span =
      Encloses (basis_of k) (p.payments k.plan) k.premium.ticks k.state k.year span
