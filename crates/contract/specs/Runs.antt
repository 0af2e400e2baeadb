-- Whole runs: a contract is issued, answers any calls, and then stands or is left. Assumes nothing.
use Rattle.std.specs.Prelude.{ℕ, Bool, true, false, List, [], ◌∷◌, ℤ, pos}
use Rattle.basis.specs.Transitions.{Transitions}
use Rattle.valuation.specs.Figures.{figure}
use Rattle.valuation.specs.Operations.{Operations}
use Rattle.contract.specs.Standings.{Standing, Books, Ledger}
use Rattle.contract.specs.Steps.{Leaving, leaving, books_after_leaving}
use Rattle.contract.specs.Ledgers.{Request, Answer, Entry}

-- a request of the ledger, or the question for the figure in a valuation
pub data Call : Type 0 where
  Ask : Request → Call
  AskFigure : Call

pub data Reply (F : Type 0) : Type 0 where
  Told : Answer → Reply F
  HasFigure : F → Reply F

-- where a whole run ends: its contract stands, or it has been left and these are its books
pub data End : Type 0 where
  Stands : (ledger : Ledger) → End
  Left : (leaving : Leaving) (books : Books) → End

-- the books at the end, and what leaving told, where the contract has been left
abbrev pub books_at : End → Books
books_at (Stands l) = l.books
books_at (Left k b) = b

abbrev pub leaving_at : End → Leaving
leaving_at (Stands l) = record { paid = pos 0; result = pos 0 }
leaving_at (Left k b) = k

module _ (c : Transitions) where
  -- the last step of a run: nothing more is asked, or the contract is left and nothing is carried
  -- any more
  pub data Ends (l : Ledger) : Bool → End → Type 0 where
    stands : Ends l false (Stands l)
    leaves :
        Ends l true (Left (leaving c l.stands) (books_after_leaving l.books (leaving c l.stands)))

  module _ {F : Type 0} (v : Operations F) where
    abbrev pub figure_at : Standing → F
    figure_at s = figure v c s.plan s.premium s.state s.year

    -- one call; the question for the figure changes nothing
    pub data Turn (l : Ledger) : Call → Reply F → Ledger → Type 0 where
      asked : {q : Request} {a : Answer} {m : Ledger} → Entry c l q a m → Turn l (Ask q) (Told a) m
      figure_told : Turn l AskFigure (HasFigure (figure_at l.stands)) l

    pub data Runs : Ledger → List Call → List (Reply F) → Ledger → Type 0 where
      done : {l : Ledger} → Runs l [] [] l
      more :
          {l m n : Ledger} {q : Call} {a : Reply F} {qs : List Call} {rs : List (Reply F)} →
          Turn l q a m → Runs m qs rs n → Runs l (q ∷ qs) (a ∷ rs) n
