-- The rows of figures, one after another. Assumes nothing.
use Rattle.std.proofs.Common.{◌≡◌, ℕ, zero, suc, ◌+◌, ◌-◌, ◌*◌, ◌<◌, ◌≤◌, List, ◌++◌, flat_map, take, drop, length, get_or, sym, ap, ◌∙◌, add-mul, one-mul, zero-mul, suc-mul, not-suc-le-zero, le_of_suc-le-suc, append_assoc, arith}
use Rattle.std.specs.List.{range_with_len}
use Rattle.std.proofs.lemmas.List.{drop_at, length-take-le, length-append, get_or-append-add}
use Rattle.std.proofs.Math.ListN.{get_or-append}
use Rattle.std.proofs.lemmas.List.FromFn.{length-map-range_with_len}
use Rattle.basis.specs.Transitions.{Transitions}
use Rattle.plan.specs.Payments.{Payments}
use Rattle.valuation.specs.Figures.{figures_of, rows_from}
use Rattle.valuation.specs.Operations.{Operations}

module _ {F : Type 0} (v : Operations F) (c : Transitions) (p : Payments) (premium : ℕ) where
  -- the first row, and the others
  pub rows_split : (t : ℕ) → t ≤ c.years → rows_from v c p premium t ≡ figures_of v c p premium t ++ rows_from v c p premium (t + 1)
  rows_split t l =
      let left : c.years + 1 - t ≡ suc (c.years + 1 - (t + 1)) = omega arith in
      ap (λ n. flat_map (figures_of v c p premium) (range_with_len t n)) left

  pub row_length : (t : ℕ) → length (figures_of v c p premium t) ≡ c.states
  row_length t = length-map-range_with_len _ 0 c.states

-- ---- places

-- the row of u years later begins so many places later
pub rows_apart : (m from years at : ℕ) → from ≤ at → at ≤ years → (years + 1 - from) * m ≡ (at - from) * m + (years + 1 - at) * m
rows_apart m from years at l h = ap (λ n. n * m) (let apart : years + 1 - from ≡ (at - from) + (years + 1 - at) = omega arith in apart) ∙ add-mul (at - from) (years + 1 - at) m

pub next_row : (m from at : ℕ) → from ≤ at → (at - from) * m + m ≡ (at + 1 - from) * m
next_row m from at l =
    let one : at + 1 - from ≡ at - from + 1 = omega arith in
    sym (ap (λ n. n * m) one ∙ add-mul (at - from) 1 m ∙ ap (λ n. (at - from) * m + n) (one-mul m))

-- the rows before the end, the last among them
pub row_inside : (m from years at : ℕ) → from ≤ at → at ≤ years → (at - from) * m + m ≤ (years + 1 - from) * m
row_inside m from years at l h =
    let apart : years + 1 - from ≡ (at - from) + 1 + (years - at) = omega arith in
    omega (arith, ap (λ n. n * m) apart, add-mul (at - from + 1) (years - at) m, add-mul (at - from) 1 m)

-- what stands from a place on, once figures have been put there
pub kept_from : {X : Type 0} (rows figures : List X) (place m : ℕ) → length figures ≡ m → place + m ≤ length rows → drop place (take place rows ++ figures ++ drop (place + m) rows) ≡ figures ++ drop (place + m) rows
kept_from rows figures place m long inside =
    ap (drop place) (append_assoc (take place rows) figures (drop (place + m) rows))
    ∙ drop_at (take place rows) (figures ++ drop (place + m) rows) place (length-take-le place rows (omega (arith, inside)))

-- the entry of place u · m + i is that of state i in the row of u years later
module _ {F : Type 0} (row : ℕ → List F) (m : ℕ) (long : (t : ℕ) → length (row t) ≡ m) (d : F) where
  pub rows_length : (t n : ℕ) → length (flat_map row (range_with_len t n)) ≡ n * m
  rows_length t zero = omega arith
  rows_length t (suc n) = omega (arith, length-append (row t) (flat_map row (range_with_len (t + 1) n)), long t, rows_length (t + 1) n, suc-mul n m)

  pub entry_of_row : (t n u i : ℕ) → u < n → i < m → get_or (flat_map row (range_with_len t n)) (u * m + i) d ≡ get_or (row (t + u)) i d
  entry_of_row t zero u i late inside = absurd (not-suc-le-zero late)
  entry_of_row t (suc n) zero i late inside =
      ap (λ k. get_or (row t ++ flat_map row (range_with_len (t + 1) n)) k d) (let first : 0 * m + i ≡ i = omega (arith, zero-mul m) in first)
      ∙ get_or-append (row t) (flat_map row (range_with_len (t + 1) n)) d i (omega (arith, long t))
      ∙ ap (λ k. get_or (row k) i d) (let this : t ≡ t + 0 = omega arith in this)
  entry_of_row t (suc n) (suc u) i late inside =
      ap (λ k. get_or (row t ++ flat_map row (range_with_len (t + 1) n)) k d) (let later : suc u * m + i ≡ length (row t) + (u * m + i) = omega (arith, suc-mul u m, long t) in later)
      ∙ get_or-append-add (row t) (flat_map row (range_with_len (t + 1) n)) (u * m + i) d
      ∙ entry_of_row (t + 1) n u i (le_of_suc-le-suc late) inside
      ∙ ap (λ k. get_or (row k) i d) (let that : t + 1 + u ≡ t + suc u = omega arith in that)
