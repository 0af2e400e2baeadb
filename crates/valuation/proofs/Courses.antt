-- What the column of a course holds. Assumes nothing.
use Rattle.std.proofs.Common.{◌≡◌, ℕ, ◌+◌, ◌-◌, ◌*◌, ◌<◌, ◌≤◌, List, ◌++◌, length, get_or, drop, ℤ, pos, ap, ◌∙◌, mul-le-mul_right, arith}
use Rattle.std.proofs.lemmas.List.{length-append, length-drop, get_or-append_right, get_or-drop}
use Rattle.std.proofs.Math.ListN.{get_or-append}
use Rattle.std.proofs.lemmas.List.FromFn.{get_or-map-range_with_len}
use Rattle.units.specs.Ranges.{limit}
use Rattle.basis.specs.Transitions.{Transitions, Lawful}
use Rattle.plan.specs.Payments.{Payments, InRange}
use Rattle.valuation.specs.Courses.{course_length, Writes}
use Rattle.valuation.specs.Figures.{figure, figures_of, rows_from}
use Rattle.valuation.specs.Means.{mean}
use Rattle.valuation.proofs.Agreement.{figure_is}
use Rattle.valuation.proofs.Rows.{row_length, rows_length, rows_apart, entry_of_row}

module _ (c : Transitions) (law : Lawful c) (p : Payments) (range : InRange p) (premium : ℕ) (small : premium ≤ limit) (t : ℕ) (old : List ℤ) (fits : course_length c t ≤ length old) where
  long : length (rows_from mean c p premium t) ≡ course_length c t
  long = rows_length (figures_of mean c p premium) c.states (row_length mean c p premium) (pos 0) t (c.years + 1 - t)

  pub writes : Writes c p premium t old (rows_from mean c p premium t ++ drop (course_length c t) old)
  writes = record {
    fits = fits;
    as_long = omega (arith, length-append (rows_from mean c p premium t) (drop (course_length c t) old), length-drop (course_length c t) old, long, fits);
    rows = λ i u inside early late.
        get_or-append (rows_from mean c p premium t) (drop (course_length c t) old) (pos 0) ((u - t) * c.states + i) (below i u inside early late)
        ∙ entry_of_row (figures_of mean c p premium) c.states (row_length mean c p premium) (pos 0) t (c.years + 1 - t) (u - t) i (omega (arith, early, late)) inside
        ∙ get_or-map-range_with_len (λ j. figure mean c p premium j (t + (u - t))) 0 c.states i i (pos 0) inside (omega arith)
        ∙ ap (λ y. figure mean c p premium i y) (let year : t + (u - t) ≡ u = omega (arith, early) in year)
        ∙ figure_is c law p range premium small i u;
    no_later_entry = λ k late.
        get_or-append_right (rows_from mean c p premium t) (drop (course_length c t) old) (course_length c t) k (pos 0) long late
        ∙ get_or-drop (course_length c t) old (k - course_length c t) (pos 0)
        ∙ ap (λ n. get_or old n (pos 0)) (let place : course_length c t + (k - course_length c t) ≡ k = omega (arith, late) in place);
  }
    where
      below : (i u : ℕ) → i < c.states → t ≤ u → u ≤ c.years → (u - t) * c.states + i < length (rows_from mean c p premium t)
      below i u inside early late =
          let apart = rows_apart c.states t c.years u early late in
          let rest : 1 * c.states ≤ (c.years + 1 - u) * c.states = mul-le-mul_right c.states (omega (arith, late)) in
          omega (arith, long, apart, rest, inside)
