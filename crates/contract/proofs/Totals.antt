-- The answers of a run add up to its books, and its number counts what was accepted. Assumes nothing.
use Rattle.std.proofs.Common.{◌≡◌, ℕ, ◌+◌, Bool, true, false, cond, List, [], ◌∷◌, ℤ, pos, ◌+ℤ◌, refl, ◌∙◌, ap, arith}
use Rattle.std.proofs.lemmas.Int.{ints}
use Rattle.std.proofs.lemmas.List.Sums.{sum_by-cons}
use Rattle.std.specs.List.{count_by, fold}
use Rattle.units.specs.Sums.{int_sum_by}
use Rattle.units.specs.declared.fault.Fault.{Fault}
use Rattle.basis.specs.Transitions.{Transitions}
use Rattle.valuation.specs.Operations.{Operations}
use Rattle.contract.specs.Standings.{Terms, Ledger, Books, issued, begun, opening_result, reserve_at}
use Rattle.contract.specs.Ledgers.{Request, Close, Alter, AskReserve, AskSpan, AskCourse, Answer, Entry, refusal, refused, accepted, closed, altered_to, reserve_told, span_told, course_written}
use Rattle.contract.specs.Runs.{Call, Reply, Turn, asked, figure_told, Runs, done, more, End, Stands, Ends, stands, leaves}
use Rattle.contract.specs.Totals.{no_posting, posting_of, bears_number, carried_after, posting_in, is_numbered, carried_on, AddUp}

-- one more answer, from some books and a number to others
record Adds {F : Type 0} (b : Books) (number : ℕ) (a : Reply F) (after : Books) (next : ℕ) : Type 0 where
  pub premiums : after.premiums ≡ b.premiums +ℤ (posting_in a).premium
  pub interest : after.interest ≡ b.interest +ℤ (posting_in a).interest
  pub benefits : after.benefits ≡ b.benefits +ℤ (posting_in a).benefits
  pub results : after.results ≡ b.results +ℤ (posting_in a).result
  pub carried : after.carried ≡ carried_on b.carried a
  pub counts : next ≡ number + cond (is_numbered a) 1 0

-- many
pub record AddAll {F : Type 0} (b : Books) (number : ℕ) (rs : List (Reply F)) (after : Books) (next : ℕ) : Type 0 where
  pub premiums : after.premiums ≡ b.premiums +ℤ int_sum_by (λ r. (posting_in r).premium) rs
  pub interest : after.interest ≡ b.interest +ℤ int_sum_by (λ r. (posting_in r).interest) rs
  pub benefits : after.benefits ≡ b.benefits +ℤ int_sum_by (λ r. (posting_in r).benefits) rs
  pub results : after.results ≡ b.results +ℤ int_sum_by (λ r. (posting_in r).result) rs
  pub carried : after.carried ≡ fold carried_on b.carried rs
  pub counts : next ≡ number + count_by is_numbered rs

-- an answer that posts nothing
nothing_added : {F : Type 0} (l : Ledger) (a : Reply F) → posting_in a ≡ no_posting → carried_on l.books.carried a ≡ l.books.carried → is_numbered a ≡ false → Adds l.books l.stands.number a l.books l.stands.number
nothing_added l a posts carries numbered = record {
  premiums = omega (arith, ints, ap (λ x. x.premium) posts);
  interest = omega (arith, ints, ap (λ x. x.interest) posts);
  benefits = omega (arith, ints, ap (λ x. x.benefits) posts);
  results = omega (arith, ints, ap (λ x. x.result) posts);
  carried = cc;
  counts = rw numbered (omega arith);
}

refused_posts : (q : Request) (fault : Fault) → posting_of (refusal q fault) ≡ no_posting
refused_posts (Close end rate) fault = refl
refused_posts (Alter new) fault = refl
refused_posts AskReserve fault = refl
refused_posts AskSpan fault = refl
refused_posts (AskCourse column) fault = refl

refused_carries : (z : ℤ) (q : Request) (fault : Fault) → carried_after z (refusal q fault) ≡ z
refused_carries z (Close end rate) fault = refl
refused_carries z (Alter new) fault = refl
refused_carries z AskReserve fault = refl
refused_carries z AskSpan fault = refl
refused_carries z (AskCourse column) fault = refl

refused_bears : (q : Request) (fault : Fault) → bears_number (refusal q fault) ≡ false
refused_bears (Close end rate) fault = refl
refused_bears (Alter new) fault = refl
refused_bears AskReserve fault = refl
refused_bears AskSpan fault = refl
refused_bears (AskCourse column) fault = refl

module _ {F : Type 0} (v : Operations F) (c : Transitions) where
  turn_adds : (l m : Ledger) (q : Call) (a : Reply F) → Turn c v l q a m → Adds l.books l.stands.number a m.books m.stands.number
  turn_adds l _ _ _ (asked (refused {q} f)) = nothing_added l _ (refused_posts q _) (refused_carries l.books.carried q _) (refused_bears q _)
  turn_adds l _ _ _ (asked (accepted free closed)) = record { premiums = refl; interest = refl; benefits = refl; results = refl; carried = refl; counts = refl }
  turn_adds l _ _ _ (asked (accepted free (altered_to least))) = record { premiums = refl; interest = refl; benefits = refl; results = refl; carried = refl; counts = refl }
  turn_adds l _ _ a (asked (accepted free reserve_told)) = nothing_added l a refl refl refl
  turn_adds l _ _ a (asked (accepted free span_told)) = nothing_added l a refl refl refl
  turn_adds l _ _ a (asked (accepted free (course_written w))) = nothing_added l a refl refl refl
  turn_adds l _ _ a figure_told = nothing_added l a refl refl refl

  add_first : (b : Books) (number : ℕ) (a : Reply F) (rs : List (Reply F)) (d e : Books) (next last : ℕ) → Adds b number a d next → AddAll d next rs e last → AddAll b number (a ∷ rs) e last
  add_first b number a rs d e next last one all = record {
    premiums = omega (arith, ints, one.premiums, all.premiums);
    interest = omega (arith, ints, one.interest, all.interest);
    benefits = omega (arith, ints, one.benefits, all.benefits);
    results = omega (arith, ints, one.results, all.results);
    carried = all.carried ∙ ap (λ z. fold carried_on z rs) one.carried;
    counts = omega (arith, one.counts, all.counts, sum_by-cons (λ r. cond (is_numbered r) 1 0) a rs);
  }

  pub runs_add : (l m : Ledger) (qs : List Call) (rs : List (Reply F)) → Runs c v l qs rs m → AddAll l.books l.stands.number rs m.books m.stands.number
  runs_add l _ _ _ done = record {
    premiums = omega (arith, ints);
    interest = omega (arith, ints);
    benefits = omega (arith, ints);
    results = omega (arith, ints);
    carried = refl;
    counts = omega arith;
  }
  runs_add l m _ _ (more {m = k} {a = a} {rs = rs} t r) = add_first l.books l.stands.number a rs k.books m.books k.stands.number m.stands.number (turn_adds l k _ a t) (runs_add k m _ rs r)

  pub counted : (x : Terms) (l : Ledger) (qs : List Call) (rs : List (Reply F)) → Runs c v (issued c x) qs rs l → l.stands.number ≡ count_by is_numbered rs
  counted x l qs rs r = let all = runs_add (issued c x) l qs rs r in omega (arith, all.counts)

  -- the books of a run that is over
  pub added_up : (x : Terms) (l : Ledger) (qs : List Call) (rs : List (Reply F)) (leaving : Bool) (e : End) → Runs c v (issued c x) qs rs l → Ends c l leaving e → AddUp (opening_result c x) (reserve_at c (begun x)) rs e
  added_up x l qs rs _ _ r stands =
      let all = runs_add (issued c x) l qs rs r in
      record {
        premiums = omega (arith, ints, all.premiums);
        interest = omega (arith, ints, all.interest);
        benefits = omega (arith, ints, all.benefits);
        results = omega (arith, ints, all.results);
        carried = all.carried;
      }
  added_up x l qs rs _ _ r leaves =
      let all = runs_add (issued c x) l qs rs r in
      record {
        premiums = omega (arith, ints, all.premiums);
        interest = omega (arith, ints, all.interest);
        benefits = omega (arith, ints, all.benefits);
        results = omega (arith, ints, all.results);
        carried = refl;
      }
