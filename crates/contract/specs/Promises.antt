-- What is promised of every contract, whatever is asked of it. Assumes nothing.
use Rattle.std.specs.Prelude.{◌≡◌, ⊤, ℕ, ◌<◌, ◌≤◌, Bool, List, [], ◌∷◌, ◌++◌, ℤ, pos, count_by}
use Rattle.basis.specs.Transitions.{Transitions}
use Rattle.plan.specs.Payments.{Payments}
use Rattle.valuation.specs.Comparisons.{PaysAtLeastAsMuch}
use Rattle.valuation.specs.Exact.{NearExact}
use Rattle.valuation.specs.Figures.{figure}
use Rattle.valuation.specs.Means.{mean_ends}
use Rattle.valuation.specs.Operations.{Operations, EndByEnd}
use Rattle.valuation.specs.Reserves.{reserve}
use Rattle.valuation.specs.SpanOperations.{span_ends}
use Rattle.valuation.specs.Spans.{ends}
use Rattle.contract.specs.Standings.{Terms, Standing, Ledger, Balances, AreTerms, begun, issued, opening_result, reserve_at}
use Rattle.contract.specs.Runs.{Call, Reply, Turn, Runs, End, Stands, Left, Ends, books_at}
use Rattle.contract.specs.Totals.{AddUp, is_numbered}

-- a contract that has been left carries nothing
abbrev pub CarriesNothingOnceLeft : End → Type 0
CarriesNothingOnceLeft (Stands l) = ⊤
CarriesNothingOnceLeft (Left k b) = b.carried ≡ pos 0

module _ (c : Transitions) where
  -- what holds of every ledger that stands for a contract issued on the terms x
  pub record Sound (x : Terms) (l : Ledger) : Type 0 where
    pub state_in_basis : l.stands.state < c.states
    pub year_in_basis : l.stands.year ≤ c.years
    pub number_in_range : l.stands.number ≤ 9999
    -- within a tick for each year left
    pub near_exact :
        NearExact c l.stands.plan l.stands.premium l.stands.state l.stands.year
        (reserve_at c l.stands)
    pub carries_the_reserve : l.books.carried ≡ reserve_at c l.stands
    pub balances : Balances x.deposit l.books

  -- what holds of the books at the end of every whole run
  pub record Settled {F : Type 0} (x : Terms) (rs : List (Reply F)) (e : End) : Type 0 where
    pub balances : Balances x.deposit (books_at e)
    pub carries_nothing_once_left : CarriesNothingOnceLeft e
    -- the answers add up to them
    pub adds_up : AddUp (opening_result c x) (reserve_at c (begun x)) rs e

  -- the contract where one ledger stands is nowhere valued lower than that where the other does
  abbrev pub NowhereLower :
      {F : Type 0} → (F → List ℤ) → (Payments → ℕ → ℕ → ℕ → F) → Standing → Standing → Type 0
  NowhereLower ends value less more =
      (i u : ℕ) → i < c.states → less.year ≤ u → u ≤ c.years →
      EndByEnd ends (value less.plan less.premium i u) (value more.plan more.premium i u)

  -- of two contracts in one state and year, the one that pays at least as much, at a premium that
  -- is due alike and no higher
  pub record Outpays (less more : Standing) : Type 0 where
    pub state : less.state ≡ more.state
    pub year : less.year ≡ more.year
    pub pays : PaysAtLeastAsMuch c less.year less.plan less.premium more.plan more.premium

  module _ {F : Type 0} (v : Operations F) where
    -- a contract was issued on the terms x, answered every call, and has come to stand as the
    -- ledger says
    pub record ComesTo (x : Terms) (qs : List Call) (rs : List (Reply F))
        (l : Ledger) : Type 0 where
      pub terms : AreTerms c x
      pub runs : Runs c v (issued c x) qs rs l

    -- a whole run, to its end
    pub record IsWholeRun (x : Terms) (qs : List Call) (rs : List (Reply F))
        (leaves : Bool) (e : End) : Type 0 where
      pub ledger : Ledger
      pub comes_to : ComesTo x qs rs ledger
      pub ends : Ends c ledger leaves e

  module _ {F : Type 0} (figure_ends : F → List ℤ) (v : Operations F) where
    pub record NowhereValuedLower (less more : Standing) : Type 0 where
      pub reserve : NowhereLower mean_ends (reserve c) less more
      pub span : NowhereLower span_ends (ends c) less more
      pub figure : NowhereLower figure_ends (figure v c) less more

    -- for every issue and every list of calls, accepted or refused, in any order, many or none, and
    -- left at last or not
    pub record Promise : Type 0 where
      pub every_contract_is_sound :
          (x : Terms) (qs : List Call) (rs : List (Reply F)) (l : Ledger) →
          ComesTo v x qs rs l → Sound x l
      pub its_number_counts_closings_and_alterations :
          (x : Terms) (qs : List Call) (rs : List (Reply F)) (l : Ledger) →
          ComesTo v x qs rs l → l.stands.number ≡ count_by is_numbered rs
      pub its_books_balance_and_are_what_it_answered :
          (x : Terms) (qs : List Call) (rs : List (Reply F)) (leaves : Bool) (e : End) →
          IsWholeRun v x qs rs leaves e → Settled x rs e
      pub goes_on :
          (x : Terms) (qs : List Call) (rs : List (Reply F)) (l m : Ledger) (q : Call)
          (a : Reply F) → ComesTo v x qs rs l → Turn c v l q a m →
          ComesTo v x (qs ++ q ∷ []) (rs ++ a ∷ []) m
      pub every_call_is_answered :
          (l : Ledger) (q : Call) → (a : Reply F) × (m : Ledger) × Turn c v l q a m
      pub no_other_answer :
          (l : Ledger) (q : Call) (a b : Reply F) (m n : Ledger) →
          Turn c v l q a m → Turn c v l q b n → (a ≡ b) × (m ≡ n)
      pub no_other_run :
          (x : Terms) (qs : List Call) (rs ss : List (Reply F)) (leaves : Bool) (e f : End) →
          IsWholeRun v x qs rs leaves e → IsWholeRun v x qs ss leaves f → (rs ≡ ss) × (e ≡ f)
      pub who_pays_at_least_as_much_is_nowhere_valued_lower :
          (x y : Terms) (qs ps : List Call) (rs ss : List (Reply F)) (less more : Ledger) →
          ComesTo v x qs rs less → ComesTo v y ps ss more →
          Outpays less.stands more.stands → NowhereValuedLower less.stands more.stands
