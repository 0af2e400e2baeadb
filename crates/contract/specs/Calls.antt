-- The engine's requests and answers as the ledger has them. Assumes nothing.
use Rattle.std.specs.Prelude.{◌≡◌, List, ◌++◌, map, vec_items}
use Rattle.basis.specs.declared.Basis.{Ghosts as BasisGhosts}
use Rattle.plan.specs.Payments.{Payments}
use Rattle.plan.specs.declared.Plan.{Ghosts as PlanGhosts}
use Rattle.valuation.specs.Operations.{Operations}
use Rattle.contract.specs.ContractStates.{basis_of, standing, ledger_of, year_told, alteration_told}
use Rattle.contract.specs.Ledgers.{Close, Alter, AskReserve, AskSpan, AskCourse, Closed, Altered, IsWorth, LiesWithin, Written, NotWritten, Refused}
use Rattle.contract.specs.Runs.{Call, Ask, AskFigure, Reply, Told, HasFigure, Turn, Runs, figure_at}
use Rattle.contract.specs.Standings.{Books}
use Rattle.contract.specs.declared.answer.Answer.{Answer}
use Rattle.contract.specs.declared.answer.Answer.TheVariants.{Closed as ClosedAnswer, Altered as AlteredAnswer, Reserve as ReserveAnswer, Span as SpanAnswer, Figure as FigureAnswer, Course as CourseAnswer, TooShort as TooShortAnswer, Refused as RefusedAnswer}
use Rattle.contract.specs.declared.contract.Contract.{Contract}
use Rattle.contract.specs.declared.request.Request.{Request}
use Rattle.contract.specs.declared.request.Request.TheVariants.{Close as CloseRequest, Alter as AlterRequest, Reserve as ReserveRequest, Span as SpanRequest, Figure as FigureRequest, Course as CourseRequest}

-- what a request asks for, and what an answer says
abbrev pub asked : {P : Type 0} → (P → Payments) → Request P → Call
asked payments (CloseRequest end rate) = Ask (Close end rate)
asked payments (AlterRequest plan) = Ask (Alter (payments plan))
asked payments ReserveRequest = Ask AskReserve
asked payments SpanRequest = Ask AskSpan
asked payments FigureRequest = AskFigure
asked payments (CourseRequest column) = Ask (AskCourse (vec_items column))

abbrev pub said : {F : Type 0} → Answer F → Reply F
said (ClosedAnswer k) = Told (Closed (year_told k))
said (AlteredAnswer k) = Told (Altered (alteration_told k))
said (ReserveAnswer reserve) = Told (IsWorth reserve)
said (SpanAnswer span) = Told (LiesWithin span)
said (FigureAnswer figure) = HasFigure figure
said (CourseAnswer column) = Told (Written (vec_items column))
said (TooShortAnswer fault column) = Told (NotWritten fault (vec_items column))
said (RefusedAnswer fault) = Told (Refused fault)

module _ {F B P : Type 0} {b : BasisGhosts B} {p : PlanGhosts P} (v : Operations F) where
  -- the figure of a contract where it stands
  abbrev pub valued_in : Contract B P b p → F
  valued_in k = figure_at (basis_of k) v (standing k)

  -- one call takes a contract, whatever its books, from where it stands to where it stands then, in
  -- the same basis
  pub record Turns (old : Contract B P b p) (q : Call) (a : Reply F)
      (new : Contract B P b p) : Type 0 where
    pub same_basis : new.basis ≡ old.basis
    pub turn :
        (books : Books) → (then : Books) ×
        Turn (basis_of old) v (ledger_of (standing old) books) q a (ledger_of (standing new) then)

  -- so do some requests, and their answers stand behind those that were there
  pub record Goes (old : Contract B P b p) (requests : List (Request P))
      (before after : List (Answer F)) (new : Contract B P b p) : Type 0 where
    pub same_basis : new.basis ≡ old.basis
    pub answers : List (Answer F)
    pub behind : after ≡ before ++ answers
    pub runs :
        (books : Books) → (then : Books) ×
        Runs (basis_of old) v (ledger_of (standing old) books)
        (map (asked p.payments) requests) (map said answers)
        (ledger_of (standing new) then)
