-- Objections to a request: the first is told, and there is one or none. Assumes nothing.
use Rattle.std.proofs.Common.{◌≡◌, ℕ, suc, ◌+◌, ◌<◌, ◌≤◌, inl, inr, List, length, ℤ, pos, negsuc, ◌≤ℤ◌, ◌<ℤ◌, arith}
use Rattle.std.proofs.lemmas.Bool.{cases_lt}
use Rattle.std.proofs.lemmas.Int.{ints}
use Rattle.basis.specs.Transitions.{Transitions}
use Rattle.plan.specs.Payments.{Payments}
use Rattle.valuation.specs.Courses.{course_length}
use Rattle.contract.specs.Standings.{Standing}
use Rattle.contract.specs.Ledgers.{Request, Close, Alter, AskReserve, AskSpan, AskCourse, Objects, no_year_left, no_such_state, rate_too_low, rate_too_high, no_such_move, no_premium, no_number_to_close, no_number_to_alter, too_short, NoPremiumWillDo, FirstObjection, Unobjected}
use Rattle.contract.specs.Closings.{MayClose}

module _ (c : Transitions) where
  pub first_once : (s : Standing) (q : Request) (k h : ℕ) → FirstObjection c s q k → FirstObjection c s q h → k ≡ h
  first_once s q k h a b =
      elim (cases_lt k h) [
        | inl l ↦ absurd (b.none_before k l a.stands)
        | inr l ↦ elim (cases_lt h k) [ inl g ↦ absurd (a.none_before h g b.stands) | inr g ↦ omega (arith, l, g) ]
      ]

  -- ---- closing: the checks that come before a number
  pub record ClosingPasses (s : Standing) (end : ℕ) (rate : ℤ) (number : ℕ) : Type 0 where
    pub year : 16 < number → s.year < c.years
    pub state : 17 < number → end < c.states
    pub low : 18 < number → negsuc 499999 ≤ℤ rate
    pub high : 18 < number → rate ≤ℤ pos 500000
    pub share : 19 < number → 0 < c.share s.state end s.year
    pub left : 21 < number → s.number < 9999

  pub closing_passes : (s : Standing) (end : ℕ) (rate : ℤ) (number : ℕ) → ClosingPasses s end rate number → (lower : ℕ) → lower < number → Objects c s (Close end rate) lower → ⊥
  closing_passes s end rate number h _ l (no_year_left x) = omega (arith, x, h.year l)
  closing_passes s end rate number h _ l (no_such_state x) = omega (arith, x, h.state l)
  closing_passes s end rate number h _ l (rate_too_low x) = omega (arith, ints, x, h.low l)
  closing_passes s end rate number h _ l (rate_too_high x) = omega (arith, ints, x, h.high l)
  closing_passes s end rate number h _ l (no_such_move x) = omega (arith, x, h.share l)
  closing_passes s end rate number h _ l (no_number_to_close x) = omega (arith, x, h.left l)

  -- ---- the first of them, by the checks that passed before
  module _ (s : Standing) (end : ℕ) (rate : ℤ) where
    pub first_no_year : c.years ≤ s.year → FirstObjection c s (Close end rate) 16
    first_no_year h = record { stands = no_year_left h; none_before = closing_passes s end rate 16 (record { year = omega arith; state = omega arith; low = λ l. omega (arith, ints, l); high = λ l. omega (arith, ints, l); share = omega arith; left = omega arith }) }

    module _ (year : s.year < c.years) where
      pub first_no_state : c.states ≤ end → FirstObjection c s (Close end rate) 17
      first_no_state h = record { stands = no_such_state h; none_before = closing_passes s end rate 17 (record { year = λ _. year; state = omega arith; low = λ l. omega (arith, ints, l); high = λ l. omega (arith, ints, l); share = omega arith; left = omega arith }) }

      module _ (inside : end < c.states) where
        passes_18 : ClosingPasses s end rate 18
        passes_18 = record { year = λ _. year; state = λ _. inside; low = λ l. omega (arith, ints, l); high = λ l. omega (arith, ints, l); share = omega arith; left = omega arith }

        pub first_rate_low : rate <ℤ negsuc 499999 → FirstObjection c s (Close end rate) 18
        first_rate_low h = record { stands = rate_too_low h; none_before = closing_passes s end rate 18 passes_18 }

        pub first_rate_high : pos 500000 <ℤ rate → FirstObjection c s (Close end rate) 18
        first_rate_high h = record { stands = rate_too_high h; none_before = closing_passes s end rate 18 passes_18 }

        module _ (low : negsuc 499999 ≤ℤ rate) (high : rate ≤ℤ pos 500000) where
          pub first_no_move : c.share s.state end s.year ≡ 0 → FirstObjection c s (Close end rate) 19
          first_no_move h = record { stands = no_such_move h; none_before = closing_passes s end rate 19 (record { year = λ _. year; state = λ _. inside; low = λ _. low; high = λ _. high; share = omega arith; left = omega arith }) }

          module _ (share : 0 < c.share s.state end s.year) where
            pub first_no_number : 9999 ≤ s.number → FirstObjection c s (Close end rate) 21
            first_no_number h = record { stands = no_number_to_close h; none_before = closing_passes s end rate 21 (record { year = λ _. year; state = λ _. inside; low = λ _. low; high = λ _. high; share = λ _. share; left = omega arith }) }

            pub none_to_closing : s.number < 9999 → Unobjected c s (Close end rate)
            none_to_closing h k x = closing_passes s end rate (suc k) (record { year = λ _. year; state = λ _. inside; low = λ _. low; high = λ _. high; share = λ _. share; left = λ _. h }) k (omega arith) x

  pub may_close : (s : Standing) (end : ℕ) (rate : ℤ) → MayClose c s end rate → Unobjected c s (Close end rate)
  may_close s end rate may = none_to_closing s end rate may.year_left may.in_basis may.rate_low may.rate_high may.may_move may.number_left

  -- ---- altering
  pub altering_passes : (s : Standing) (new : Payments) (number : ℕ) → (20 < number → NoPremiumWillDo c s new → ⊥) → (21 < number → s.number < 9999) → (lower : ℕ) → lower < number → Objects c s (Alter new) lower → ⊥
  altering_passes s new number some left _ l (no_premium x) = some l x
  altering_passes s new number some left _ l (no_number_to_alter x) = omega (arith, x, left l)

  pub course_passes : (s : Standing) (column : List ℤ) (number : ℕ) → (22 < number → course_length c s.year ≤ length column) → (lower : ℕ) → lower < number → Objects c s (AskCourse column) lower → ⊥
  course_passes s column number long _ l (too_short x) = omega (arith, x, long l)

  pub reserve_passes : (s : Standing) → Unobjected c s AskReserve
  reserve_passes s _ x = elim x [ ]

  pub span_passes : (s : Standing) → Unobjected c s AskSpan
  span_passes s _ x = elim x [ ]

  -- ---- what no objection says
  module _ (s : Standing) where
    pub year_left : (end : ℕ) (rate : ℤ) → Unobjected c s (Close end rate) → s.year < c.years
    year_left end rate free = elim (cases_lt s.year c.years) [ inl h ↦ h | inr h ↦ absurd (free 16 (no_year_left h)) ]

    pub in_states : (end : ℕ) (rate : ℤ) → Unobjected c s (Close end rate) → end < c.states
    in_states end rate free = elim (cases_lt end c.states) [ inl h ↦ h | inr h ↦ absurd (free 17 (no_such_state h)) ]

    pub number_left : (q : Request) → (9999 ≤ s.number → Objects c s q 21) → Unobjected c s q → s.number + 1 ≤ 9999
    number_left q objects free = elim (cases_lt s.number 9999) [ inl h ↦ omega (arith, h) | inr h ↦ absurd (free 21 (objects h)) ]
