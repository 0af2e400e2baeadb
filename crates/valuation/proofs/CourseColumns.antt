-- A column can hold a course in one way only, and has it where it is long enough. Assumes nothing.
use Rattle.std.proofs.Common.{◌≡◌, ℕ, ◌+◌, ◌-◌, ◌*◌, ◌/◌, ◌%◌, ◌<◌, ◌≤◌, inl, inr, List, ◌++◌, map, flat_map, length, get_or, drop, ℤ, pos, sym, ap, ◌∙◌, mul-le-mul_right, arith}
use Rattle.std.specs.List.{range_with_len}
use Rattle.std.proofs.lemmas.Bool.{cases_lt}
use Rattle.std.proofs.lemmas.List.{length-append, length-drop, get_or-append_right, get_or-drop, ext_get_or}
use Rattle.std.proofs.lemmas.List.FromFn.{get_or-map-range_with_len, length-map-range_with_len}
use Rattle.std.proofs.lemmas.Nat.{mod_below, div_below}
use Rattle.std.proofs.Math.ListN.{get_or-append}
use Rattle.std.proofs.Math.Nat.{mod-add-div'}
use Rattle.basis.specs.Transitions.{Transitions, moves}
use Rattle.plan.specs.Payments.{Payments}
use Rattle.valuation.specs.Courses.{course_length, Writes}
use Rattle.valuation.specs.Reserves.{reserve}
use Rattle.valuation.proofs.Rows.{rows_length, rows_apart, entry_of_row}

module _ (c : Transitions) (p : Payments) (premium t : ℕ) (old : List ℤ) where
  -- a place of the course is that of a state in a year
  place_is : (a b : List ℤ) → Writes c p premium t old a → Writes c p premium t old b → 0 < c.states → (k : ℕ) → k < course_length c t → get_or a k (pos 0) ≡ get_or b k (pos 0)
  place_is a b x y some k l =
      let m : ℕ = c.states in
      let state : k % m < m = mod_below k m some in
      let later : k / m < c.years + 1 - t = div_below k m (c.years + 1 - t) some l in
      let year : ℕ = t + k / m in
      let back : (year - t) * m + k % m ≡ k = ap (λ n. n * m + k % m) (let e : year - t ≡ k / m = omega arith in e) ∙ (let e : k / m * m + k % m ≡ k = omega (arith, mod-add-div' k m) in e) in
      ap (λ n. get_or a n (pos 0)) (sym back)
      ∙ x.rows (k % m) year state (omega arith) (omega (arith, later))
      ∙ sym (y.rows (k % m) year state (omega arith) (omega (arith, later)))
      ∙ ap (λ n. get_or b n (pos 0)) back

  pub written_once : (a b : List ℤ) → 0 < c.states → Writes c p premium t old a → Writes c p premium t old b → a ≡ b
  written_once a b some x y =
      ext_get_or (pos 0) a b (omega (arith, x.as_long, y.as_long)) (λ k l. elim (cases_lt k (course_length c t)) [
        | inl early ↦ place_is a b x y some k early
        | inr late ↦ x.no_later_entry k late ∙ sym (y.no_later_entry k late)
      ])

  abbrev row : ℕ → List ℤ
  row u = map (λ i. reserve c p premium i u) (moves c)

  abbrev rows : List ℤ
  rows = flat_map row (range_with_len t (c.years + 1 - t))

  row_long : (u : ℕ) → length (row u) ≡ c.states
  row_long u = length-map-range_with_len _ 0 c.states

  long : length rows ≡ course_length c t
  long = rows_length row c.states row_long (pos 0) t (c.years + 1 - t)

  pub some_written : course_length c t ≤ length old → Writes c p premium t old (rows ++ drop (course_length c t) old)
  some_written fits = record {
    fits = fits;
    as_long = omega (arith, length-append rows (drop (course_length c t) old), length-drop (course_length c t) old, long, fits);
    rows = λ i u inside early late.
        get_or-append rows (drop (course_length c t) old) (pos 0) ((u - t) * c.states + i) (below i u inside early late)
        ∙ entry_of_row row c.states row_long (pos 0) t (c.years + 1 - t) (u - t) i (omega (arith, early, late)) inside
        ∙ get_or-map-range_with_len (λ j. reserve c p premium j (t + (u - t))) 0 c.states i i (pos 0) inside (omega arith)
        ∙ ap (λ y. reserve c p premium i y) (let year : t + (u - t) ≡ u = omega (arith, early) in year);
    no_later_entry = λ k late.
        get_or-append_right rows (drop (course_length c t) old) (course_length c t) k (pos 0) long late
        ∙ get_or-drop (course_length c t) old (k - course_length c t) (pos 0)
        ∙ ap (λ n. get_or old n (pos 0)) (let place : course_length c t + (k - course_length c t) ≡ k = omega (arith, late) in place);
  }
    where
      below : (i u : ℕ) → i < c.states → t ≤ u → u ≤ c.years → (u - t) * c.states + i < length rows
      below i u inside early late =
          let apart = rows_apart c.states t c.years u early late in
          let rest : 1 * c.states ≤ (c.years + 1 - u) * c.states = mul-le-mul_right c.states (omega (arith, late)) in
          omega (arith, long, apart, rest, inside)
