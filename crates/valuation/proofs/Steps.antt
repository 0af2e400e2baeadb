-- The sum of what follows a state in the mean, move by move. Assumes nothing.
use Rattle.std.proofs.Common.{◌≡◌, ℕ, ◌+◌, ◌<◌, ◌≤◌, [], ◌∷◌, ◌++◌, take, ℤ, pos, ◌+ℤ◌, ◌*ℤ◌, sum_by, sym, ap, ⊎_elim, ◌∙◌, arith}
use borrow.Author.Differences.{ints}
use Rattle.std.proofs.lemmas.Bool.Decides.{leb_tells}
use Rattle.std.specs.List.{range_with_len}
use Rattle.std.proofs.lemmas.List.FromFn.{map-range_with_len_more, take-map-range_with_len}
use Rattle.std.proofs.lemmas.List.{map-id}
use Rattle.std.proofs.lemmas.List.Sums.{sum_by-take-le, sum_by-append, sum_by-cons}
use Rattle.units.specs.Near.{Within}
use Rattle.units.specs.Ranges.{million, limit}
use Rattle.units.specs.Sums.{int_sum_by}
use Rattle.units.proofs.Distances.{within_pos, within_more, within_add}
use Rattle.units.proofs.Sums.{int_sum_by_append, int_sum_by_within}
use Rattle.basis.specs.Transitions.{Transitions, Lawful, moves}
use Rattle.plan.specs.Payments.{Payments, InRange}
use Rattle.valuation.proofs.Range.{shares_most}

counting_more : (n : ℕ) → range_with_len 0 (n + 1) ≡ range_with_len 0 n ++ n ∷ []
counting_more n = sym (map-id (range_with_len 0 (n + 1))) ∙ map-range_with_len_more (λ j. j) 0 n n (omega arith) ∙ ap (λ xs. xs ++ n ∷ []) (map-id (range_with_len 0 n))

take_counting : (n k : ℕ) → k ≤ n → take k (range_with_len 0 n) ≡ range_with_len 0 k
take_counting n k l = ap (take k) (sym (map-id (range_with_len 0 n))) ∙ take-map-range_with_len (λ j. j) 0 n k l ∙ map-id (range_with_len 0 k)

module _ (c : Transitions) (p : Payments) (i t : ℕ) (next : ℕ → ℤ) where
  -- what follows a move, and its part of the sum
  abbrev pub follows : ℕ → ℤ
  follows j = pos (p.move_benefit i j t) +ℤ next j

  abbrev pub part : ℕ → ℤ
  part j = pos (c.share i j t) *ℤ follows j

  -- the sum over the first moves
  abbrev pub so_far : ℕ → ℤ
  so_far n = int_sum_by part (range_with_len 0 n)

  pub one_more : (n : ℕ) → so_far (n + 1) ≡ so_far n +ℤ part n
  one_more n = ap (int_sum_by part) (counting_more n) ∙ int_sum_by_append part (range_with_len 0 n) (n ∷ []) ∙ omega (arith, ints)

-- what holds at the first places, and at one more
pub one_holds_more : {X : Type 0} (holds : X → Type 0) (n : ℕ) (next : ℕ → X) → ((j : ℕ) → j < n → holds (next j)) → holds (next n) → (j : ℕ) → j < n + 1 → holds (next j)
one_holds_more holds n next before last j l =
    ⊎_elim (λ here. let same : j ≡ n = omega (arith, l, here) in rw same last) (λ earlier. before j (omega (arith, earlier))) (leb_tells n j)

module _ (c : Transitions) (law : Lawful c) (p : Payments) (range : InRange p) (i t : ℕ) (early : t < c.years) where
  shares_below : (n : ℕ) → n ≤ c.states → sum_by (λ j. c.share i j t) (range_with_len 0 n) ≤ million
  shares_below n l =
      let first = ap (sum_by (λ j. c.share i j t)) (take_counting c.states n l) in
      omega (arith, first, sum_by-take-le (λ j. c.share i j t) (moves c) n, shares_most c law p range i t early)

  pub share_most : (n : ℕ) → n < c.states → c.share i n t ≤ million
  share_most n l =
      let more = ap (sum_by (λ j. c.share i j t)) (counting_more n) in
      omega (arith, more, shares_below (n + 1) (omega arith), sum_by-append (λ j. c.share i j t) (range_with_len 0 n) (n ∷ []), sum_by-cons (λ j. c.share i j t) n [])

  pub so_far_within : (next : ℕ → ℤ) (n : ℕ) → ((j : ℕ) → j < n → Within 4580000000000 (next j)) → n ≤ c.states → Within 4600000000000000000 (so_far c p i t next n)
  so_far_within next n each l =
      let follow : (j : ℕ) → j < n → Within (limit + 4580000000000) (follows c p i t next j) = λ j inside. within_add (within_pos limit (p.move_benefit i j t) (range.most_move_benefit i j t)) (each j inside) in
      within_more (omega (arith, shares_below n l)) (int_sum_by_within (λ j. c.share i j t) (follows c p i t next) (limit + 4580000000000) n follow 0 n (omega arith))
