-- Entries by what the engine finds, whatever the books are. Assumes nothing.
use Rattle.std.proofs.Common.{◌≡◌, ℕ, suc, true, ◌+◌, ◌<◌, ◌≤◌, List, length, take, drop, ◌++◌, ℤ, ◌-ℤ◌, sym, subst, ap, ◌∙◌, arith}
use Rattle.std.proofs.lemmas.List.{take_at}
use Rattle.units.specs.Faults.{entry_fault}
use Rattle.units.specs.Ranges.{limit}
use Rattle.units.specs.declared.fault.Fault.{Fault}
use Rattle.units.specs.declared.fault.Layer.TheVariants.{Contract}
use Rattle.basis.specs.Transitions.{Transitions}
use Rattle.plan.specs.Payments.{Payments}
use Rattle.valuation.specs.Courses.{Writes, course_length}
use Rattle.valuation.specs.Operations.{Operations}
use Rattle.valuation.specs.Premiums.{LeastPremium, NoPremium, Suffices}
use Rattle.valuation.specs.Spans.{ends}
use Rattle.valuation.specs.declared.span.ends.Ends.{Ends as SpanEnds}
use Rattle.contract.specs.Closings.{MayClose}
use Rattle.contract.specs.ContractStates.{ledger_of}
use Rattle.contract.specs.Ledgers.{Request, AskReserve, AskSpan, AskCourse, Alter, Close, Answer, IsWorth, LiesWithin, Written, NotWritten, Altered, Closed, refusal, Entry, FirstObjection, NoPremiumWillDo, refused, accepted, reserve_told, span_told, course_written, altered_to, closed, too_short, no_premium, no_number_to_alter, Refused}
use Rattle.contract.specs.Runs.{AskFigure, Reply, HasFigure, Turn, figure_told, figure_at, Ends, leaves, Left}
use Rattle.contract.specs.Standings.{Standing, Books, moved, altered, reserve_at}
use Rattle.contract.specs.Steps.{ClosedYear, Alteration, Leaving, closed_year, alteration, alteration_result, leaving, payout, leaving_result, books_after_leaving}
use Rattle.contract.proofs.Objections.{reserve_passes, span_passes, course_passes, may_close, altering_passes}

module _ (c : Transitions) (s : Standing) where
  -- an entry takes a contract from here on, whatever its books
  abbrev pub EntersTo : Request → Answer → Standing → Type 0
  EntersTo q a t = (b : Books) → (d : Books) × Entry c (ledger_of s b) q a (ledger_of t d)

  abbrev pub fault_there : ℕ → Fault
  fault_there number = entry_fault number Contract s.year s.state

  pub refused_there : (q : Request) (number : ℕ) (fault : Fault) → fault ≡ fault_there number → FirstObjection c s q number → EntersTo q (refusal q fault) s
  refused_there q number fault is first = subst (λ f. EntersTo q (refusal q f) s) (sym is) (λ b. (b, refused first))

  pub reserve_there : (z : ℤ) → z ≡ reserve_at c s → EntersTo AskReserve (IsWorth z) s
  reserve_there z is = subst (λ x. EntersTo AskReserve (IsWorth x) s) (sym is) (λ b. (b, accepted (reserve_passes c s) reserve_told))

  pub span_there : (x : SpanEnds) → x ≡ ends c s.plan s.premium s.state s.year → EntersTo AskSpan (LiesWithin x) s
  span_there x is = subst (λ y. EntersTo AskSpan (LiesWithin y) s) (sym is) (λ b. (b, accepted (span_passes c s) span_told))

  pub course_there : (old new : List ℤ) → Writes c s.plan s.premium s.year old new → EntersTo (AskCourse old) (Written new) s
  course_there old new writes b = (b, accepted (λ k o. course_passes c s old (suc k) (λ _. writes.fits) k (omega arith) o) (course_written writes))

  pub no_course_there : (old new : List ℤ) (fault : Fault) → length old < course_length c s.year → new ≡ old → fault ≡ fault_there 22 → EntersTo (AskCourse old) (NotWritten fault new) s
  no_course_there old new fault short same is =
      subst (λ column. EntersTo (AskCourse old) (NotWritten fault column) s) (sym same)
      (refused_there (AskCourse old) 22 fault is (record { stands = too_short short; none_before = course_passes c s old 22 (omega arith) }))

  -- a closing that nothing stands against
  pub closed_there : (end : ℕ) (rate : ℤ) → MayClose c s end rate → (year : ClosedYear) → year ≡ closed_year c s end rate → EntersTo (Close end rate) (Closed year) (moved s end)
  closed_there end rate may year is =
      subst (λ k. EntersTo (Close end rate) (Closed k) (moved s end)) (sym is) (λ b. (_, accepted (may_close c s end rate may) closed))

  -- ---- altering, where `before` is the reserve so far
  module _ (new : Payments) (before : ℤ) (reserved : before ≡ reserve_at c s) where
    pub no_premium_there : (fault : Fault) → NoPremium c new s.state s.year before fault → EntersTo (Alter new) (Refused fault) s
    no_premium_there fault none =
        refused_there (Alter new) 20 fault none.told (record { stands = no_premium (λ premium low suffices. none.none premium low (subst (λ z. Suffices c new s.state s.year z premium) (sym reserved) suffices)); none_before = altering_passes c s new 20 (omega arith) (omega arith) })

    module _ (premium : ℕ) (least : LeastPremium c new s.state s.year before premium) where
      some : NoPremiumWillDo c s new → ⊥
      some none = none premium least.in_range (subst (λ z. Suffices c new s.state s.year z premium) reserved least.suffices)

      pub no_number_there : (fault : Fault) → fault ≡ fault_there 21 → 9999 ≤ s.number → EntersTo (Alter new) (Refused fault) s
      no_number_there fault is full = refused_there (Alter new) 21 fault is (record { stands = no_number_to_alter full; none_before = altering_passes c s new 21 (λ _. some) (omega arith) })

      pub altered_there : s.number < 9999 → (number : ℕ) (result after : ℤ) → number ≡ s.number + 1 → result ≡ before -ℤ after → after ≡ reserve_at c (altered s new premium) → EntersTo (Alter new) (Altered (record { number = number; premium = premium; result = result; reserve = after })) (altered s new premium)
      altered_there left number result after count is stays =
          let is_result : result ≡ alteration_result c s new premium = is ∙ ap (λ z. before -ℤ z) stays ∙ ap (λ z. z -ℤ reserve_at c (altered s new premium)) reserved in
          let priced : LeastPremium c new s.state s.year (reserve_at c s) premium = subst (λ z. LeastPremium c new s.state s.year z premium) reserved least in
          let told : Alteration = record { number = number; premium = premium; result = result; reserve = after } in
          let is_told : told ≡ alteration c s new premium =
          ap (λ n. record { number = n; premium = premium; result = result; reserve = after }) count
          ∙ ap (λ z. record { number = s.number + 1; premium = premium; result = z; reserve = after }) is_result
          ∙ ap (λ z. record { number = s.number + 1; premium = premium; result = alteration_result c s new premium; reserve = z }) stays in
          subst (λ k. EntersTo (Alter new) (Altered k) (altered s new premium)) (sym is_told)
          (λ b. (_, accepted (λ k o. altering_passes c s new (suc k) (λ _. some) (λ _. left) k (omega arith) o) (altered_to priced)))

  -- leaving
  pub left_there : (paid result : ℤ) → paid ≡ payout c s → result ≡ leaving_result c s → (b : Books) → Ends c (ledger_of s b) true (Left (record { paid = paid; result = result }) (books_after_leaving b (record { paid = paid; result = result })))
  left_there paid result pays posts b =
      let told : Leaving = record { paid = paid; result = result } in
      let is : told ≡ leaving c s = ap (λ z. record { paid = z; result = result }) pays ∙ ap (λ z. record { paid = payout c s; result = z }) posts in
      subst (λ k. Ends c (ledger_of s b) true (Left k (books_after_leaving b k))) (sym is) leaves

  pub figure_there : {F : Type 0} (v : Operations F) (x : F) → x ≡ figure_at c v s → (b : Books) → (d : Books) × Turn c v (ledger_of s b) AskFigure (HasFigure x) (ledger_of s d)
  figure_there v x is = subst (λ y. (b : Books) → (d : Books) × Turn c v (ledger_of s b) AskFigure (HasFigure y) (ledger_of s d)) (sym is) (λ b. (b, figure_told))

-- a column that was lent whole comes back whole
pub written_back : (items new : List ℤ) (len : ℕ) → len ≡ length items → length new ≡ length items → take len (new ++ drop (length new) items) ≡ new
written_back items new len whole same = take_at new (drop (length new) items) len (omega (arith, whole, same))
