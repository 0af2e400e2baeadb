-- The figures of one year from those of the next. Assumes nothing.
use Rattle.std.proofs.Common.{◌≡◌, ℕ, suc, ◌+◌, ◌-◌, ◌<◌, ◌≤◌, List, map, get_or, pos, sym, ap, ◌∙◌, arith}
use Rattle.std.proofs.lemmas.List.FromFn.{get_or-map-range_with_len}
use Rattle.units.proofs.Places.{map_counting_same}
use Rattle.basis.specs.Transitions.{Transitions, moves}
use Rattle.plan.specs.Payments.{Payments}
use Rattle.valuation.specs.Figures.{flow, joined, joined_from, figure_before, figure_from, figures_from, figure_with, figure, figures_of}
use Rattle.valuation.specs.Operations.{Operations}

-- with no year left, a figure is that of the flow alone
pub figure_late : {F : Type 0} (v : Operations F) (c : Transitions) (p : Payments) (premium i t : ℕ) → c.years ≤ t → v.make (flow c p premium i t) ≡ figure v c p premium i t
figure_late v c p premium i t late = let none : c.years - t ≡ 0 = omega arith in sym (ap (λ k. figure_with v c p premium k i t) none)

pub figures_late : {F : Type 0} (v : Operations F) (c : Transitions) (p : Payments) (premium t : ℕ) (new : List F) → c.years ≤ t → new ≡ map (λ i. v.make (flow c p premium i t)) (moves c) → new ≡ figures_of v c p premium t
figures_late v c p premium t new late made = let none : c.years - t ≡ 0 = omega arith in made ∙ sym (ap (λ k. map (λ i. figure_with v c p premium k i t) (moves c)) none)

pub figure_earlier : {F : Type 0} (v : Operations F) (c : Transitions) (p : Payments) (premium i t : ℕ) → t < c.years → figure v c p premium i t ≡ figure_before v c p premium i t (λ j. figure v c p premium j (t + 1))
figure_earlier v c p premium i t early = let left : c.years - t ≡ suc (c.years - (t + 1)) = omega arith in ap (λ k. figure_with v c p premium k i t) left

-- the join from a list of the figures of all states
pub joined_from_is : {F : Type 0} (v : Operations F) (c : Transitions) (p : Payments) (i t : ℕ)
    (next : ℕ → F) (after : List F) → after ≡ map next (moves c) →
    joined_from v c p i t after ≡ joined v c p i t next
joined_from_is v c p i t next after known =
    let d = v.make (pos 0) in
    let stands : (j : ℕ) → j < c.states → get_or after j d ≡ next j = λ j inside. ap (λ xs. get_or xs j d) known ∙ get_or-map-range_with_len next 0 c.states j j d inside (omega arith) in
    ap (λ xs. v.join i (map (λ j. c.share i j t) (moves c)) xs) (map_counting_same _ _ 0 c.states (λ j inside. ap (λ x. v.add x (pos (p.move_benefit i j t))) (stands j (omega (arith, inside)))))

-- the figures of a year from those of the year after
pub figure_from_is : {F : Type 0} (v : Operations F) (c : Transitions) (p : Payments) (premium t : ℕ) → t < c.years → (after : List F) → after ≡ figures_of v c p premium (t + 1) → (i : ℕ) → figure_from v c p premium i t after ≡ figure v c p premium i t
figure_from_is v c p premium t early after known i =
    ap (λ e. v.add (v.discount (c.factor t) e) (flow c p premium i t)) (joined_from_is v c p i t (λ j. figure v c p premium j (t + 1)) after known)
    ∙ sym (figure_earlier v c p premium i t early)

pub figures_from_is : {F : Type 0} (v : Operations F) (c : Transitions) (p : Payments) (premium t : ℕ) → t < c.years → (after : List F) → after ≡ figures_of v c p premium (t + 1) → figures_from v c p premium t after c.states ≡ figures_of v c p premium t
figures_from_is v c p premium t early after known = map_counting_same _ _ 0 c.states (λ i inside. figure_from_is v c p premium t early after known i)
