-- The ledger of a contract: what is asked of it, what it answers, and how it stands then. It is
-- drawn up from what issuing was given and from what is asked alone. Assumes nothing.
use Rattle.std.specs.Prelude.{◌≡◌, ℕ, ◌<◌, ◌≤◌, List, length, ℤ, pos, negsuc, ◌<ℤ◌, ◌≤ℤ◌}
use Rattle.units.specs.Faults.{entry_fault}
use Rattle.units.specs.Ranges.{limit}
use Rattle.units.specs.declared.fault.Fault.{Fault}
use Rattle.units.specs.declared.fault.Layer.TheVariants.{Contract}
use Rattle.basis.specs.Transitions.{Transitions}
use Rattle.plan.specs.Payments.{Payments}
use Rattle.valuation.specs.Courses.{Writes, course_length}
use Rattle.valuation.specs.Premiums.{LeastPremium, Suffices}
use Rattle.valuation.specs.Spans.{ends}
use Rattle.valuation.specs.declared.span.ends.Ends.{Ends}
use Rattle.contract.specs.Standings.{Standing, Ledger, Posting, posted, moved, altered, reserve_at}
use Rattle.contract.specs.Steps.{ClosedYear, Alteration, closed_year, closing_posting, alteration, alteration_posting}

pub data Request : Type 0 where
  -- close the year, in this end state and at this earned rate
  Close : (end : ℕ) (rate : ℤ) → Request
  -- go on under this plan
  Alter : (new : Payments) → Request
  AskReserve : Request
  AskSpan : Request
  -- write the course into this column
  AskCourse : (column : List ℤ) → Request

pub data Answer : Type 0 where
  Closed : (year : ClosedYear) → Answer
  Altered : (alteration : Alteration) → Answer
  IsWorth : (reserve : ℤ) → Answer
  LiesWithin : (span : Ends) → Answer
  -- the column, with the course in it
  Written : (column : List ℤ) → Answer
  Refused : (fault : Fault) → Answer
  -- the column, as it comes back from a course that is refused
  NotWritten : (fault : Fault) (column : List ℤ) → Answer

-- how a request is refused
abbrev pub refusal : Request → Fault → Answer
refusal (Close end rate) fault = Refused fault
refusal (Alter new) fault = Refused fault
refusal AskReserve fault = Refused fault
refusal AskSpan fault = Refused fault
refusal (AskCourse column) fault = NotWritten fault column

module _ (c : Transitions) where
  -- no premium in range brings the reserve under a plan down to the reserve so far
  abbrev pub NoPremiumWillDo : Standing → Payments → Type 0
  NoPremiumWillDo s new =
      (premium : ℕ) → premium ≤ limit → Suffices c new s.state s.year (reserve_at c s) premium → ⊥

  -- what stands against a request, by the number that it is told under
  pub data Objects (s : Standing) : Request → ℕ → Type 0 where
    no_year_left : {end : ℕ} {rate : ℤ} → c.years ≤ s.year → Objects s (Close end rate) 16
    no_such_state : {end : ℕ} {rate : ℤ} → c.states ≤ end → Objects s (Close end rate) 17
    rate_too_low : {end : ℕ} {rate : ℤ} → rate <ℤ negsuc 499999 → Objects s (Close end rate) 18
    rate_too_high : {end : ℕ} {rate : ℤ} → pos 500000 <ℤ rate → Objects s (Close end rate) 18
    no_such_move :
        {end : ℕ} {rate : ℤ} → c.share s.state end s.year ≡ 0 → Objects s (Close end rate) 19
    no_premium : {new : Payments} → NoPremiumWillDo s new → Objects s (Alter new) 20
    no_number_to_close : {end : ℕ} {rate : ℤ} → 9999 ≤ s.number → Objects s (Close end rate) 21
    no_number_to_alter : {new : Payments} → 9999 ≤ s.number → Objects s (Alter new) 21
    too_short :
        {column : List ℤ} → length column < course_length c s.year → Objects s (AskCourse column) 22

  -- checks go in the order of the numbers: the objection of the lowest is told
  pub record FirstObjection (s : Standing) (q : Request) (number : ℕ) : Type 0 where
    pub stands : Objects s q number
    pub none_before : (lower : ℕ) → lower < number → Objects s q lower → ⊥

  abbrev pub Unobjected : Standing → Request → Type 0
  Unobjected s q = (number : ℕ) → Objects s q number → ⊥

  -- the ledger that stands at s after a posting, and carries the reserve there
  abbrev pub entered : Ledger → Standing → Posting → Ledger
  entered l s x = record { stands = s; books = posted l.books x (reserve_at c s) }

  -- the ledger after a closing, and after an alteration
  abbrev pub after_closing : Ledger → ℕ → ℤ → Ledger
  after_closing l end rate =
      entered l (moved l.stands end) (closing_posting (closed_year c l.stands end rate))

  abbrev pub after_alteration : Ledger → Payments → ℕ → Ledger
  after_alteration l new premium =
      entered l (altered l.stands new premium)
      (alteration_posting (alteration c l.stands new premium))

  -- what comes of a request that nothing stands against
  pub data Accepted (l : Ledger) : Request → Answer → Ledger → Type 0 where
    closed :
        {end : ℕ} {rate : ℤ} →
        Accepted l (Close end rate) (Closed (closed_year c l.stands end rate))
        (after_closing l end rate)
    altered_to :
        {new : Payments} {premium : ℕ} →
        LeastPremium c new l.stands.state l.stands.year (reserve_at c l.stands) premium →
        Accepted l (Alter new) (Altered (alteration c l.stands new premium))
        (after_alteration l new premium)
    reserve_told : Accepted l AskReserve (IsWorth (reserve_at c l.stands)) l
    span_told :
        Accepted l AskSpan
        (LiesWithin (ends c l.stands.plan l.stands.premium l.stands.state l.stands.year)) l
    course_written :
        {old new : List ℤ} → Writes c l.stands.plan l.stands.premium l.stands.year old new →
        Accepted l (AskCourse old) (Written new) l

  -- an entry: a request is refused for its first objection, at the year and state of the contract,
  -- and nothing changes; or there is none, and it is accepted
  pub data Entry (l : Ledger) : Request → Answer → Ledger → Type 0 where
    refused :
        {q : Request} {number : ℕ} → FirstObjection l.stands q number →
        Entry l q (refusal q (entry_fault number Contract l.stands.year l.stands.state)) l
    accepted :
        {q : Request} {a : Answer} {m : Ledger} →
        Unobjected l.stands q → Accepted l q a m → Entry l q a m
