-- What the answers of a run add up to. Assumes nothing.
use Rattle.std.specs.Prelude.{◌≡◌, Bool, true, false, List, ℤ, pos, ◌+ℤ◌}
use Rattle.std.specs.List.{fold}
use Rattle.units.specs.Sums.{int_sum_by}
use Rattle.contract.specs.Standings.{Posting, Books}
use Rattle.contract.specs.Steps.{Leaving, closing_posting, alteration_posting}
use Rattle.contract.specs.Ledgers.{Answer, Closed, Altered, IsWorth, LiesWithin, Written, Refused, NotWritten}
use Rattle.contract.specs.Runs.{Reply, Told, HasFigure, End, Stands, Left, books_at, leaving_at}

abbrev pub no_posting : Posting
no_posting = record { premium = pos 0; interest = pos 0; benefits = pos 0; result = pos 0 }

-- what an answer posts: closings and alterations that were accepted do, questions and refusals do
-- not
abbrev pub posting_of : Answer → Posting
posting_of (Closed k) = closing_posting k
posting_of (Altered k) = alteration_posting k
posting_of (IsWorth reserve) = no_posting
posting_of (LiesWithin span) = no_posting
posting_of (Written column) = no_posting
posting_of (Refused fault) = no_posting
posting_of (NotWritten fault column) = no_posting

-- whether an answer is that to a closing or an alteration that was accepted
abbrev pub bears_number : Answer → Bool
bears_number (Closed k) = true
bears_number (Altered k) = true
bears_number (IsWorth reserve) = false
bears_number (LiesWithin span) = false
bears_number (Written column) = false
bears_number (Refused fault) = false
bears_number (NotWritten fault column) = false

-- the reserve carried after an answer, where so much was carried before
abbrev pub carried_after : ℤ → Answer → ℤ
carried_after before (Closed k) = k.reserve
carried_after before (Altered k) = k.reserve
carried_after before (IsWorth reserve) = before
carried_after before (LiesWithin span) = before
carried_after before (Written column) = before
carried_after before (Refused fault) = before
carried_after before (NotWritten fault column) = before

module _ {F : Type 0} where
  -- the same of a reply; a figure that is told posts nothing
  abbrev pub posting_in : Reply F → Posting
  posting_in (Told a) = posting_of a
  posting_in (HasFigure x) = no_posting

  abbrev pub is_numbered : Reply F → Bool
  is_numbered (Told a) = bears_number a
  is_numbered (HasFigure x) = false

  abbrev pub carried_on : ℤ → Reply F → ℤ
  carried_on before (Told a) = carried_after before a
  carried_on before (HasFigure x) = before

  -- the reserve carried at the end: that of the last answer that tells one, and none after leaving
  abbrev pub carried_at_end : ℤ → List (Reply F) → End → ℤ
  carried_at_end opening rs (Stands l) = fold carried_on opening rs
  carried_at_end opening rs (Left k b) = pos 0

  -- books are what the answers add up to, with the opening result, the opening reserve and what
  -- leaving told
  pub record AddUp (result reserve : ℤ) (rs : List (Reply F)) (e : End) : Type 0 where
    pub premiums : (books_at e).premiums ≡ int_sum_by (λ r. (posting_in r).premium) rs
    pub interest : (books_at e).interest ≡ int_sum_by (λ r. (posting_in r).interest) rs
    pub benefits :
        (books_at e).benefits
        ≡ int_sum_by (λ r. (posting_in r).benefits) rs +ℤ (leaving_at e).paid
    pub results :
        (books_at e).results
        ≡ (result +ℤ int_sum_by (λ r. (posting_in r).result) rs) +ℤ (leaving_at e).result
    pub carried : (books_at e).carried ≡ carried_at_end reserve rs e
