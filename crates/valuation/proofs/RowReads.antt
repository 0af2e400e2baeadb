-- What stands in a row of shares, and among what is paid for moves. Assumes nothing.
use Rattle.std.proofs.Common.{◌≡◌, ℕ, ◌<◌, List, length, map, get_or, sym, ap, ◌∙◌, arith}
use Rattle.std.proofs.lemmas.List.{get_or-map, length-map}
use Rattle.std.proofs.lemmas.List.FromFn.{length-map-range_with_len, get_or-map-range_with_len}
use Rattle.units.specs.declared.amount.Amount.{Amount}
use Rattle.basis.specs.Transitions.{Transitions, row}
use Rattle.plan.specs.Payments.{Payments, benefits_of_moves}

pub row_length : (c : Transitions) (i t : ℕ) (shares : List ℕ) → shares ≡ row c i t → length shares ≡ c.states
row_length c i t shares is = ap length is ∙ length-map-range_with_len (λ j. c.share i j t) 0 c.states

pub share_read : (c : Transitions) (i t : ℕ) (shares : List ℕ) → shares ≡ row c i t → (j : ℕ) → j < c.states → get_or shares j 0 ≡ c.share i j t
share_read c i t shares is j inside = ap (λ xs. get_or xs j 0) is ∙ get_or-map-range_with_len (λ j. c.share i j t) 0 c.states j j 0 inside (omega arith)

pub benefit_read : (p : Payments) (i t : ℕ) (amounts : List Amount) → map (λ amount. amount.ticks) amounts ≡ benefits_of_moves p i t → (j : ℕ) → j < 8 → (amount : Amount) → amount ≡ get_or amounts j amount → amount.ticks ≡ p.move_benefit i j t
benefit_read p i t amounts are j inside amount is =
    let ticks : Amount → ℕ = λ a. a.ticks in
    let benefit : ℕ → ℕ = λ j. p.move_benefit i j t in
    let long : length amounts ≡ 8 = sym (length-map amounts ticks) ∙ ap length are ∙ length-map-range_with_len benefit 0 8 in
    ap ticks is
    ∙ sym (get_or-map ticks amounts j amount 0 (omega (arith, inside, long)))
    ∙ ap (λ xs. get_or xs j 0) are
    ∙ get_or-map-range_with_len benefit 0 8 j j 0 inside (omega arith)
