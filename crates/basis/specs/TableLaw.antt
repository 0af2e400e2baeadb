-- A transition table is a lawful basis, whatever value it has. Assumes nothing.
use Rattle.std.proofs.Common.{◌≡◌, ℕ, ◌+◌, ◌*◌, ◌<◌, ◌≤◌, List, length, get_or, take, drop, pos, map, sum_by, vec_items, vec_len, sym, ap, ◌∙◌, mul-le-mul_right, add-mul, refl, arith}
use Rattle.std.specs.List.{slice_index, range_with_len}
use Rattle.std.proofs.lemmas.Int.{ints}
use Rattle.std.proofs.Math.Arith.{digits_lt}
use Rattle.std.proofs.lemmas.Bool.Decides.{nat_tests}
use Rattle.std.proofs.lemmas.List.{length-map, take-map, drop-map}
use Rattle.units.specs.Ranges.{million}
use Rattle.units.proofs.Ranged.{kept_between}
use Rattle.units.specs.Sums.{int_sum_by}
use Rattle.units.proofs.Sums.{sum_by_counting_same, sum_by_places, int_sum_by_pos}
use Rattle.basis.specs.Transitions.{Lawful}
use Rattle.basis.specs.TransitionColumns.{row_number, place, row, LawfulRow}
use Rattle.basis.specs.TransitionTables.{transition_table}
use Rattle.basis.specs.declared.table.TransitionTable.{TransitionTable}

-- everybody goes somewhere in a row of shares that are numbers
pub whole_row : (xs : List ℕ) (m r : ℕ) → r * m + m ≤ length xs → LawfulRow (row m (map pos xs) r) → sum_by (λ j. get_or xs (r * m + j) 0) (range_with_len 0 m) ≡ million
whole_row xs m r inside lawful =
    let entries : row m (map pos xs) r ≡ map pos (take m (drop (r * m) xs)) = ap (take m) (drop-map pos (r * m) xs) ∙ take-map pos m (drop (r * m) xs) in
    let total : pos (sum_by (λ x. x) (take m (drop (r * m) xs))) ≡ pos million = sym (int_sum_by_pos (take m (drop (r * m) xs))) ∙ ap (int_sum_by (λ z. z)) (sym entries) ∙ lawful.whole in
    let start : r * m + 0 ≡ r * m = omega arith in
    sum_by_places xs (r * m) 0 m (omega arith) ∙ ap (λ k. sum_by (λ x. x) (take m (drop k xs))) start ∙ omega (arith, ints, total)

pub transition_table_lawful : (s : TransitionTable) → Lawful (transition_table s)
transition_table_lawful s =
    let size = s.fit.size in
    let years = length-map (vec_items s.factors) pos in
    let factor = kept_between (vec_items s.factors) _ 1 million refl s.fit.discount in
    record {
      least_states = size.least_states;
      most_states = size.most_states;
      least_years = omega (arith, size.least_years, size.factor_places, years);
      most_years = omega (arith, size.most_years, size.factor_places, years);
      least_factor = λ t. let h = factor t in grind (arith, nat_tests);
      most_factor = λ t. let h = factor t in grind (arith, nat_tests);
      row = λ i t h k.
          let year : t < vec_len s.factors = omega (arith, k, s.factors.ok.0) in
          let number = row_number s.states i t in
          let below : number < vec_len s.factors * s.states = digits_lt year h in
          let ends : number * s.states + s.states ≤ length (vec_items s.shares) = omega (arith, mul-le-mul_right s.states below, add-mul number 1 s.states, size.share_places, length-map (vec_items s.shares) pos) in
          sum_by_counting_same (λ j. (transition_table s).share i j t) (λ j. slice_index (vec_items s.shares) (place s.states i j t)) 0 s.states (λ j inside. grind (arith, nat_tests)) ∙ whole_row (vec_items s.shares) s.states number ends (s.fit.rows i t h year);
      factor_after = λ t k. grind (arith, nat_tests);
      share_after = λ i j t k. grind (arith, nat_tests);
      share_from_outside = λ i j t k. grind (arith, nat_tests);
      share_to_outside = λ i j t k. grind (arith, nat_tests);
    }
