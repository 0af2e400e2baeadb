-- Every call has an answer, and no other. Assumes nothing.
use Rattle.std.proofs.Common.{◌≡◌, ℕ, zero, suc, ◌+◌, ◌<◌, ◌≤◌, ◌⊎◌, inl, inr, List, [], ◌∷◌, ◌++◌, length, ℤ, pos, negsuc, refl, sym, ap, ap₂, subst, not-suc-le-zero, arith}
use Rattle.std.proofs.lemmas.Bool.{cases_lt}
use Rattle.std.proofs.lemmas.Int.{ints, by_lt_z}
use Rattle.units.specs.Faults.{entry_fault}
use Rattle.units.specs.Ranges.{limit}
use Rattle.units.specs.declared.fault.Layer.TheVariants.{Contract}
use Rattle.basis.specs.Transitions.{Transitions}
use Rattle.plan.specs.Payments.{Payments}
use Rattle.valuation.specs.Courses.{course_length}
use Rattle.valuation.specs.Operations.{Operations}
use Rattle.valuation.specs.Premiums.{LeastPremium, Suffices}
use Rattle.valuation.specs.Reserves.{reserve}
use Rattle.valuation.proofs.CourseColumns.{written_once, some_written}
use Rattle.contract.specs.Standings.{Standing, Ledger, reserve_at}
use Rattle.contract.specs.Steps.{alteration}
use Rattle.contract.specs.Ledgers.{Request, Close, Alter, AskReserve, AskSpan, AskCourse, Answer, Altered, Written, refusal, no_premium, no_number_to_alter, too_short, FirstObjection, Unobjected, NoPremiumWillDo, after_alteration, Accepted, closed, altered_to, reserve_told, span_told, course_written, Entry, refused, accepted}
use Rattle.contract.specs.Runs.{Call, Ask, AskFigure, Reply, Told, Turn, asked, figure_told, Runs, done, more}
use Rattle.contract.proofs.Objections.{first_once, first_no_year, first_no_state, first_rate_low, first_rate_high, first_no_move, first_no_number, none_to_closing, altering_passes, course_passes, reserve_passes, span_passes}

-- the least number of those below n, if there is one
module _ (A : ℕ → Type 0) (decided : (k : ℕ) → A k ⊎ (A k → ⊥)) where
  abbrev Found : ℕ → Type 0
  Found n = ((k : ℕ) × (k < n) × A k × ((h : ℕ) → h < k → A h → ⊥)) ⊎ ((k : ℕ) → k < n → A k → ⊥)

  found_next : (n : ℕ) → Found n → A n ⊎ (A n → ⊥) → Found (suc n)
  found_next n (inl x) _ = inl (x.0, omega (arith, x.1), x.2, x.3)
  found_next n (inr none) (inl a) = inl (n, omega arith, a, none)
  found_next n (inr none) (inr not) = inr (λ k l y. elim (cases_lt k n) [ inl h ↦ none k h y | inr h ↦ not (subst A (let e : k ≡ n = omega (arith, l, h) in e) y) ])

  pub least_or_none : (n : ℕ) → Found n
  least_or_none zero = inr (λ k l. absurd (not-suc-le-zero l))
  least_or_none (suc n) = found_next n (least_or_none n) (decided n)

module _ (c : Transitions) where
  suffices_decided : (p : Payments) (i t : ℕ) (bound : ℤ) (premium : ℕ) → Suffices c p i t bound premium ⊎ (Suffices c p i t bound premium → ⊥)
  suffices_decided p i t bound premium = by_lt_z bound (reserve c p premium i t) (λ h. inr (λ k. omega (arith, ints, h, k))) (λ h. inl h)

  pub least_once : (p : Payments) (i t : ℕ) (bound : ℤ) (k h : ℕ) → LeastPremium c p i t bound k → LeastPremium c p i t bound h → k ≡ h
  least_once p i t bound k h a b =
      elim (cases_lt k h) [
        | inl l ↦ absurd (b.no_lower k l a.suffices)
        | inr l ↦ elim (cases_lt h k) [ inl g ↦ absurd (a.no_lower h g b.suffices) | inr g ↦ omega (arith, l, g) ]
      ]

  pub least_if_any : (p : Payments) (i t : ℕ) (bound : ℤ) → ((k : ℕ) × LeastPremium c p i t bound k) ⊎ ((premium : ℕ) → premium ≤ limit → Suffices c p i t bound premium → ⊥)
  least_if_any p i t bound =
      elim (least_or_none (Suffices c p i t bound) (suffices_decided p i t bound) (suc limit)) [
        | inl x ↦ inl (x.0, record { in_range = omega (arith, x.1); suffices = x.2; no_lower = x.3 })
        | inr none ↦ inr (λ k l. none k (omega (arith, l)))
      ]

  -- ---- no other answer
  accepted_once : 0 < c.states → (l : Ledger) (q : Request) (a b : Answer) (m n : Ledger) → Accepted c l q a m → Accepted c l q b n → (a ≡ b) × (m ≡ n)
  accepted_once some l _ _ _ _ _ closed closed = (refl, refl)
  accepted_once some l _ _ _ _ _ (altered_to {new} {premium} x) (altered_to {premium = other} y) =
      let same : premium ≡ other = least_once new l.stands.state l.stands.year (reserve_at c l.stands) premium other x y in
      (ap (λ p. Altered (alteration c l.stands new p)) same, ap (after_alteration c l new) same)
  accepted_once some l _ _ _ _ _ reserve_told reserve_told = (refl, refl)
  accepted_once some l _ _ _ _ _ span_told span_told = (refl, refl)
  accepted_once some l _ _ _ _ _ (course_written {old} {new} x) (course_written {new = other} y) =
      (ap Written (written_once c l.stands.plan l.stands.premium l.stands.year old new other some x y), refl)

  pub entry_once : 0 < c.states → (l : Ledger) (q : Request) (a b : Answer) (m n : Ledger) → Entry c l q a m → Entry c l q b n → (a ≡ b) × (m ≡ n)
  entry_once some l q _ _ _ _ (refused {number} f) (refused {number = other} g) =
      (ap (λ k. refusal q (entry_fault k Contract l.stands.year l.stands.state)) (first_once c l.stands q number other f g), refl)
  entry_once some l q _ _ _ _ (refused {number} f) (accepted free y) = absurd (free number f.stands)
  entry_once some l q _ _ _ _ (accepted free x) (refused {number} f) = absurd (free number f.stands)
  entry_once some l q a b m n (accepted free x) (accepted also y) = accepted_once some l q a b m n x y

  -- ---- some answer
  -- every request has a first objection or none
  abbrev Checked : Standing → Request → Type 0
  Checked s q = ((k : ℕ) × FirstObjection c s q k) ⊎ Unobjected c s q

  closing_checked : (s : Standing) (end : ℕ) (rate : ℤ) → Checked s (Close end rate)
  closing_checked s end rate =
      elim (cases_lt s.year c.years) [
        | inr y ↦ inl (16, first_no_year c s end rate y)
        | inl y ↦ elim (cases_lt end c.states) [
          | inr i ↦ inl (17, first_no_state c s end rate y i)
          | inl i ↦
              by_lt_z rate (negsuc 499999) (λ a. inl (18, first_rate_low c s end rate y i a))
              (λ a. by_lt_z (pos 500000) rate (λ b. inl (18, first_rate_high c s end rate y i b))
              (λ b. elim (cases_lt 0 (c.share s.state end s.year)) [
                | inr h ↦ inl (19, first_no_move c s end rate y i a b (omega (arith, h)))
                | inl h ↦ elim (cases_lt s.number 9999) [ inr u ↦ inl (21, first_no_number c s end rate y i a b h u) | inl u ↦ inr (none_to_closing c s end rate y i a b h u) ]
              ]))
        ]
      ]

  entry_if_any : (l : Ledger) (q : Request) → Checked l.stands q → (Unobjected c l.stands q → (a : Answer) × (m : Ledger) × Accepted c l q a m) → (a : Answer) × (m : Ledger) × Entry c l q a m
  entry_if_any l q (inl x) makes = (refusal q (entry_fault x.0 Contract l.stands.year l.stands.state), l, refused x.1)
  entry_if_any l q (inr free) makes = let made = makes free in (made.0, made.1, accepted free made.2)

  alteration_entered : (l : Ledger) (new : Payments) → ((k : ℕ) × LeastPremium c new l.stands.state l.stands.year (reserve_at c l.stands) k) ⊎ NoPremiumWillDo c l.stands new → (a : Answer) × (m : Ledger) × Entry c l (Alter new) a m
  alteration_entered l new (inr none) =
      (refusal (Alter new) (entry_fault 20 Contract l.stands.year l.stands.state), l, refused (record { stands = no_premium none; none_before = altering_passes c l.stands new 20 (omega arith) (omega arith) }))
  alteration_entered l new (inl x) =
      let some : NoPremiumWillDo c l.stands new → ⊥ = λ none. none x.0 x.1.in_range x.1.suffices in
      elim (cases_lt l.stands.number 9999) [
        | inr u ↦ (refusal (Alter new) (entry_fault 21 Contract l.stands.year l.stands.state), l, refused (record { stands = no_number_to_alter u; none_before = altering_passes c l.stands new 21 (λ _. some) (omega arith) }))
        | inl u ↦ (_, _, accepted (λ k o. altering_passes c l.stands new (suc k) (λ _. some) (λ _. u) k (omega arith) o) (altered_to {premium = x.0} x.1))
      ]

  course_entered : (l : Ledger) (column : List ℤ) → (a : Answer) × (m : Ledger) × Entry c l (AskCourse column) a m
  course_entered l column =
      elim (cases_lt (length column) (course_length c l.stands.year)) [
        | inl h ↦ (_, l, refused (record { stands = too_short h; none_before = course_passes c l.stands column 22 (omega arith) }))
        | inr h ↦ (_, l, accepted (λ k o. course_passes c l.stands column (suc k) (λ _. h) k (omega arith) o) (course_written (some_written c l.stands.plan l.stands.premium l.stands.year column h)))
      ]

  pub entry_some : (l : Ledger) (q : Request) → (a : Answer) × (m : Ledger) × Entry c l q a m
  entry_some l (Close end rate) = entry_if_any l (Close end rate) (closing_checked l.stands end rate) (λ _. (_, _, closed))
  entry_some l (Alter new) = alteration_entered l new (least_if_any new l.stands.state l.stands.year (reserve_at c l.stands))
  entry_some l AskReserve = (_, l, accepted (reserve_passes c l.stands) reserve_told)
  entry_some l AskSpan = (_, l, accepted (span_passes c l.stands) span_told)
  entry_some l (AskCourse column) = course_entered l column

  module _ {F : Type 0} (v : Operations F) where
    pub turn_some : (l : Ledger) (q : Call) → (a : Reply F) × (m : Ledger) × Turn c v l q a m
    turn_some l (Ask q) = let e = entry_some l q in (Told e.0, e.1, asked e.2)
    turn_some l AskFigure = (_, l, figure_told)

    pub turn_once : 0 < c.states → (l : Ledger) (q : Call) (a b : Reply F) (m n : Ledger) → Turn c v l q a m → Turn c v l q b n → (a ≡ b) × (m ≡ n)
    turn_once some l _ _ _ m n (asked {q} {a} e) (asked {a = b} h) = let same = entry_once some l q a b m n e h in (ap Told same.0, same.1)
    turn_once some l _ _ _ _ _ figure_told figure_told = (refl, refl)

    pub runs_once : 0 < c.states → (l : Ledger) (qs : List Call) (rs ss : List (Reply F)) (m n : Ledger) → Runs c v l qs rs m → Runs c v l qs ss n → (rs ≡ ss) × (m ≡ n)
    runs_once some l _ _ _ _ _ done done = (refl, refl)
    runs_once some l _ _ _ m n (more {m = k} {q = q} {a = a} {qs = qs} {rs = rs} t r) (more {m = h} {a = b} {rs = ss} u s) =
        let here = turn_once some l q a b k h t u in
        let later = runs_once some k qs rs ss m n r (subst (λ j. Runs c v j qs ss n) (sym here.1) s) in
        (ap₂ (λ x xs. x ∷ xs) here.0 later.0, later.1)

    pub runs_on : (l m n : Ledger) (qs : List Call) (rs : List (Reply F)) (q : Call) (a : Reply F) → Runs c v l qs rs m → Turn c v m q a n → Runs c v l (qs ++ q ∷ []) (rs ++ a ∷ []) n
    runs_on l _ n _ _ q a done t = more t done
    runs_on l m n _ _ q a (more {m = k} {qs = qs} {rs = rs} u r) t = more u (runs_on k m n qs rs q a r t)
