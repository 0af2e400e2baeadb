-- A sweep goes back by a year: the figures, and the rows that are kept. Assumes nothing.
use Rattle.std.proofs.Common.{◌≡◌, ℕ, ◌+◌, ◌-◌, ◌*◌, ◌<◌, ◌≤◌, List, ◌++◌, take, drop, get_or, length, sym, ap, ap₂, ◌∙◌, arith}
use Rattle.std.proofs.lemmas.List.{take_at, get_or-take}
use Rattle.std.proofs.lemmas.List.FromFn.{get_or-map-range_with_len}
use Rattle.basis.specs.Transitions.{Transitions}
use Rattle.plan.specs.Payments.{Payments}
use Rattle.valuation.specs.Figures.{figures_from, figure, figures_of, rows_from}
use Rattle.valuation.specs.Operations.{Operations}
use Rattle.valuation.proofs.Rows.{rows_split, row_length, next_row, row_inside, kept_from}
use Rattle.valuation.proofs.Years.{figures_from_is}

module _ {F : Type 0} (v : Operations F) (c : Transitions) (p : Payments) (premium m : ℕ) (states : m ≡ c.states) where
  -- the first places hold the figures of a year once they are filled from those of the year after
  pub filled : (t : ℕ) → t < c.years → (figures new : List F) → take m figures ≡ figures_of v c p premium (t + 1) → new ≡ figures_from v c p premium t (take m figures) (length (take m figures)) → take m (new ++ drop m figures) ≡ figures_of v c p premium t
  filled t early figures new known is =
      let many : length (take m figures) ≡ c.states = ap length known ∙ row_length v c p premium (t + 1) in
      let new_is : new ≡ figures_of v c p premium t = is ∙ ap (figures_from v c p premium t (take m figures)) many ∙ figures_from_is v c p premium t early (take m figures) known in
      take_at new (drop m figures) m (ap length new_is ∙ row_length v c p premium t ∙ sym states) ∙ new_is

  -- a row that is put before the rows of later years
  pub row_kept : (first t : ℕ) → first ≤ t → t ≤ c.years → (rows row new : List F) → row ≡ figures_of v c p premium t → length rows ≡ (c.years + 1 - first) * m → drop ((t + 1 - first) * m) rows ≡ rows_from v c p premium (t + 1) → ((t - first) * m + length row ≤ length rows → new ≡ take ((t - first) * m) rows ++ row ++ drop ((t - first) * m + length row) rows) → drop ((t - first) * m) new ≡ rows_from v c p premium t
  row_kept first t from until rows row new is long later kept =
      let place : ℕ = (t - first) * m in
      let many : length row ≡ m = ap length is ∙ row_length v c p premium t ∙ sym states in
      let inside : place + m ≤ length rows = omega (arith, row_inside m first c.years t from until, long) in
      let next : place + m ≡ (t + 1 - first) * m = next_row m first t from in
      ap (drop place) (kept (omega (arith, inside, many)))
      ∙ ap (λ n. drop place (take place rows ++ row ++ drop (place + n) rows)) many
      ∙ kept_from rows row place m many inside
      ∙ ap₂ (λ xs ys. xs ++ ys) is (ap (λ n. drop n rows) next ∙ later)
      ∙ sym (rows_split v c p premium t until)

-- what stands at the place of a state in the figures of a year
pub figure_read : {F : Type 0} (v : Operations F) (c : Transitions) (p : Payments) (premium t : ℕ) (figures : List F) → take c.states figures ≡ figures_of v c p premium t → (i : ℕ) → i < c.states → (x : F) → get_or figures i x ≡ figure v c p premium i t
figure_read v c p premium t figures known i inside x =
    sym (get_or-take c.states figures i x inside)
    ∙ ap (λ xs. get_or xs i x) known
    ∙ get_or-map-range_with_len (λ i. figure v c p premium i t) 0 c.states i i x inside (omega arith)
