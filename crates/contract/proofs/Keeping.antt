-- Every run keeps the contract in its basis and the books in balance, to its end. Assumes nothing.
use Rattle.std.proofs.Common.{◌≡◌, ℕ, suc, ◌+◌, ◌-◌, ◌<◌, ◌≤◌, Bool, List, cond, ◌&&◌, nat_lt, true, ℤ, pos, ◌+ℤ◌, ◌-ℤ◌, refl, ap, ◌∙◌, arith}
use Rattle.std.proofs.lemmas.Bool.Decides.{nat_tests}
use Rattle.std.proofs.lemmas.Int.{ints}
use Rattle.basis.specs.Transitions.{Transitions, Lawful}
use Rattle.valuation.specs.Reserves.{reserve_with}
use Rattle.valuation.specs.Operations.{Operations}
use Rattle.valuation.proofs.Closeness.{reserve_near}
use Rattle.contract.specs.Standings.{Standing, Terms, Books, Ledger, Posting, Balances, posted, moved, issued, reserve_at, AreTerms}
use Rattle.contract.specs.Steps.{join, discounted_join, closed_year, closing_posting}
use Rattle.contract.specs.Ledgers.{Request, Answer, Close, Alter, Entry, refused, accepted, closed, altered_to, reserve_told, span_told, course_written, no_number_to_close, no_number_to_alter}
use Rattle.contract.specs.Runs.{Call, Reply, Turn, asked, figure_told, Runs, done, more, End, Ends, stands, leaves, books_at}
use Rattle.contract.specs.Promises.{Sound, Settled, CarriesNothingOnceLeft, IsWholeRun}
use Rattle.contract.proofs.Objections.{year_left, in_states, number_left}
use Rattle.contract.proofs.Totals.{added_up}

-- a posting keeps the balance if what it brings in, less what it pays, is its result and the growth of what is carried
posting_balances : (d : ℤ) (b : Books) (x : Posting) (after : ℤ) → Balances d b → (x.premium +ℤ x.interest) -ℤ x.benefits ≡ (x.result +ℤ after) -ℤ b.carried → Balances d (posted b x after)
posting_balances d b x after h e = omega (arith, ints, h, e)

-- a closing does so, whatever is earned and wherever the contract moves
closing_even : (due interest : ℤ) (b m : ℕ) (e w v after : ℤ) → v ≡ (pos b -ℤ due) +ℤ w → (due +ℤ interest) -ℤ pos (b + m) ≡ (((interest -ℤ (e -ℤ w)) +ℤ ((e -ℤ pos m) -ℤ after)) +ℤ after) -ℤ v
closing_even due interest b m e w v after h = omega (arith, ints, h)

module _ (c : Transitions) where
  -- the reserve is what is paid now and the discounted join of what follows
  reserve_step : (s : Standing) → s.year < c.years → reserve_at c s ≡ (pos (s.plan.benefit s.state s.year) -ℤ pos (cond (s.plan.due s.state s.year) s.premium 0)) +ℤ discounted_join c s
  reserve_step s early =
      let left : c.years - s.year ≡ suc (c.years - (s.year + 1)) = omega (arith, early) in
      let now : nat_lt s.year c.years ≡ true = grind (arith, nat_tests) in
      ap (λ k. reserve_with c s.plan s.premium k s.state s.year) left
      ∙ ap (λ b. (pos (s.plan.benefit s.state s.year) -ℤ pos (cond (b && s.plan.due s.state s.year) s.premium 0)) +ℤ discounted_join c s) now

  pub record Stands (l : Ledger) : Type 0 where
    pub state : l.stands.state < c.states
    pub year : l.stands.year ≤ c.years
    pub number : l.stands.number ≤ 9999

  pub record Booked (deposit : ℤ) (l : Ledger) : Type 0 where
    pub carries : l.books.carried ≡ reserve_at c l.stands
    pub balances : Balances deposit l.books

  -- ---- one entry
  entry_stands : (l m : Ledger) (q : Request) (a : Answer) → Entry c l q a m → Stands l → Stands m
  entry_stands l _ q _ (refused f) i = i
  entry_stands l _ _ _ (accepted free (closed {end} {rate})) i = record {
    state = in_states c l.stands end rate free;
    year = omega (arith, year_left c l.stands end rate free);
    number = number_left c l.stands (Close end rate) no_number_to_close free;
  }
  entry_stands l _ _ _ (accepted free (altered_to {new} {premium} least)) i = record { state = i.state; year = i.year; number = number_left c l.stands (Alter new) no_number_to_alter free }
  entry_stands l _ _ _ (accepted free reserve_told) i = i
  entry_stands l _ _ _ (accepted free span_told) i = i
  entry_stands l _ _ _ (accepted free (course_written w)) i = i

  entry_booked : (d : ℤ) (l m : Ledger) (q : Request) (a : Answer) → Entry c l q a m → Booked d l → Booked d m
  entry_booked d l _ q _ (refused f) i = i
  entry_booked d l _ _ _ (accepted free (closed {end} {rate})) i =
      let s : Standing = l.stands in
      let x : Posting = closing_posting (closed_year c s end rate) in
      let b : ℕ = s.plan.benefit s.state s.year in
      let m : ℕ = s.plan.move_benefit s.state end s.year in
      let step = reserve_step s (year_left c s end rate free) in
      let even = closing_even x.premium x.interest b m (join c s) (discounted_join c s) l.books.carried (reserve_at c (moved s end)) (i.carries ∙ step) in
      record { carries = refl; balances = posting_balances d l.books x (reserve_at c (moved s end)) i.balances even }
  entry_booked d l _ _ _ (accepted free (altered_to {new} {premium} least)) i = record { carries = refl; balances = omega (arith, ints, i.carries, i.balances) }
  entry_booked d l _ _ _ (accepted free reserve_told) i = i
  entry_booked d l _ _ _ (accepted free span_told) i = i
  entry_booked d l _ _ _ (accepted free (course_written w)) i = i

  issued_stands : (x : Terms) → x.start < c.states → Stands (issued c x)
  issued_stands x h = record { state = h; year = omega arith; number = omega arith }

  issued_booked : (x : Terms) → Booked x.deposit (issued c x)
  issued_booked x = record { carries = refl; balances = omega (arith, ints) }

  -- ---- the end
  end_balances : (d : ℤ) (l : Ledger) (leaving : Bool) (e : End) → Ends c l leaving e → Booked d l → Balances d (books_at e)
  end_balances d l _ _ stands i = i.balances
  end_balances d l _ _ leaves i = omega (arith, ints, i.carries, i.balances)

  carries_nothing : (l : Ledger) (leaving : Bool) (e : End) → Ends c l leaving e → CarriesNothingOnceLeft e
  carries_nothing l _ _ stands = tt
  carries_nothing l _ _ leaves = refl

  -- ---- many
  module _ {F : Type 0} (v : Operations F) where
    turn_stands : (l m : Ledger) (q : Call) (a : Reply F) → Turn c v l q a m → Stands l → Stands m
    turn_stands l m _ _ (asked e) i = entry_stands l m _ _ e i
    turn_stands l _ _ _ figure_told i = i

    turn_booked : (d : ℤ) (l m : Ledger) (q : Call) (a : Reply F) → Turn c v l q a m → Booked d l → Booked d m
    turn_booked d l m _ _ (asked e) i = entry_booked d l m _ _ e i
    turn_booked d l _ _ _ figure_told i = i

    runs_stand : (l m : Ledger) (qs : List Call) (rs : List (Reply F)) → Runs c v l qs rs m → Stands l → Stands m
    runs_stand l _ _ _ done i = i
    runs_stand l m _ _ (more {m = k} t r) i = runs_stand k m _ _ r (turn_stands l k _ _ t i)

    runs_booked : (d : ℤ) (l m : Ledger) (qs : List Call) (rs : List (Reply F)) → Runs c v l qs rs m → Booked d l → Booked d m
    runs_booked d l _ _ _ done i = i
    runs_booked d l m _ _ (more {m = k} t r) i = runs_booked d k m _ _ r (turn_booked d l k _ _ t i)

    pub sound : Lawful c → (x : Terms) → AreTerms c x → (qs : List Call) (rs : List (Reply F)) (l : Ledger) → Runs c v (issued c x) qs rs l → Sound c x l
    sound law x terms qs rs l r =
        let i = runs_stand (issued c x) l qs rs r (issued_stands x terms.start_in_basis) in
        let b = runs_booked x.deposit (issued c x) l qs rs r (issued_booked x) in
        record {
          state_in_basis = i.state;
          year_in_basis = i.year;
          number_in_range = i.number;
          near_exact = reserve_near c law l.stands.plan l.stands.premium l.stands.state l.stands.year i.state i.year;
          carries_the_reserve = b.carries;
          balances = b.balances;
        }

    pub settled : (x : Terms) (qs : List Call) (rs : List (Reply F)) (leaving : Bool) (e : End) → IsWholeRun c v x qs rs leaving e → Settled c x rs e
    settled x qs rs leaving e h =
        let r = h.comes_to.runs in
        record {
          balances = end_balances x.deposit h.ledger leaving e h.ends (runs_booked x.deposit (issued c x) h.ledger qs rs r (issued_booked x));
          carries_nothing_once_left = carries_nothing h.ledger leaving e h.ends;
          adds_up = added_up v c x h.ledger qs rs leaving e r h.ends;
        }
