-- Each line that keeps the rules leaves a sheet that is a part of a lawful basis, and the last a lawful basis. Assumes nothing.
use Rattle.std.proofs.Common.{◌≡◌, ℕ, ◌+◌, ◌-◌, ◌*◌, ◌<◌, ◌≤◌, true, List, [], ◌∷◌, ◌++◌, length, get_or, inl, inr, pos, ◌==◌, eqb-true, ap, ◌∙◌, mul-le-mul_right, arith}
use Rattle.std.specs.List.{range_with_len, list_all}
use Rattle.std.proofs.lemmas.Bool.{cases_lt}
use Rattle.std.proofs.lemmas.Bool.Decides.{nat_tests}
use Rattle.std.proofs.lemmas.List.{get_or_append_left, get_or_push, length_push, length-map}
use Rattle.units.specs.Ranges.{million}
use Rattle.units.proofs.Sums.{sum_by_counting_same}
use Rattle.basis.specs.TransitionColumns.{place}
use Rattle.sheet.specs.Checks.{padded, row_total, full_rows}
use Rattle.sheet.specs.Faults.{Begun}
use Rattle.sheet.specs.declared.columns.Columns.{Columns}
use Rattle.sheet.specs.Sheets.{Sheet, Suffice, LawfulBasis}
use Rattle.sheet.proofs.Joins.{all_from, place_in_year, place_lt_year, length_padded, get_or_padded, more_below, more_at, length_more}
use Rattle.sheet.proofs.Rows.{each_between, between_each, at_most, lawful_of_rows}

-- ---- rows

-- the rows of the last year that has come are full
last_rows : (s : Sheet) → full_rows s ≡ true → (i t : ℕ) → i < s.states → t + 1 ≡ length s.factors → row_total s t i ≡ million
last_rows s full i t inside last =
    let some : list_all (λ i. row_total s (length s.factors - 1) i == million) (range_with_len 0 s.states) ≡ true = grind (arith, nat_tests) in
    let this : t ≡ length s.factors - 1 = omega arith in
    rw this (eqb-true _ million (all_from (λ i. row_total s (length s.factors - 1) i == million) 0 s.states some i (omega arith) (omega arith)))

pub all_rows : (columns : Columns) (s : Sheet) → Begun columns s → full_rows s ≡ true → (i t : ℕ) → i < s.states → t < length s.factors → row_total s t i ≡ million
all_rows columns s begun full i t inside come =
    elim (cases_lt (t + 1) (length s.factors)) [ inl earlier ↦ begun.rows i t inside earlier | inr last ↦ last_rows s full i t inside (omega arith) ]

-- rows of the same entries
total_same : (m y z : ℕ) (v w f g : List ℕ) (t i : ℕ) → ((j : ℕ) → j < m → get_or f (place m i j t) 0 ≡ get_or g (place m i j t) 0) → row_total (record { states = m; years = y; factors = v; shares = f }) t i ≡ row_total (record { states = m; years = z; factors = w; shares = g }) t i
total_same m y z v w f g t i same = sum_by_counting_same (λ j. get_or f (place m i j t) 0) (λ j. get_or g (place m i j t) 0) 0 m (λ j h. same j (omega arith))

-- ---- lines

-- `B`
pub basis_begins : (columns : Columns) (m n : ℕ) → 2 ≤ m → m ≤ 8 → 1 ≤ n → n ≤ 120 → Suffice columns m n → Begun columns (record { states = m; years = n; factors = []; shares = [] })
basis_begins columns m n a b c d room = record {
  least_states = a;
  most_states = b;
  least_years = c;
  most_years = d;
  room = room;
  years_come = omega arith;
  discount = λ k h. absurd (omega arith);
  range = λ k h. absurd (omega arith);
  places = omega arith;
  last = λ k h. absurd (omega arith);
  rows = λ i t h k. absurd (omega arith);
}

-- `D`
pub year_begins : (columns : Columns) (s : Sheet) (v : ℕ) → Begun columns s → length s.factors < s.years → 1 ≤ v → v ≤ million → full_rows s ≡ true → Begun columns (record { states = s.states; years = s.years; factors = s.factors ++ v ∷ []; shares = s.shares })
year_begins columns s v begun room_left low high full =
    let count : length (s.factors ++ v ∷ []) ≡ length s.factors + 1 = length_push s.factors v in
    let wide : length s.factors * s.states * s.states ≤ length (s.factors ++ v ∷ []) * s.states * s.states = mul-le-mul_right s.states (mul-le-mul_right s.states (omega arith)) in
    record {
      least_states = begun.least_states;
      most_states = begun.most_states;
      least_years = begun.least_years;
      most_years = begun.most_years;
      room = begun.room;
      years_come = omega arith;
      discount = each_between (s.factors ++ v ∷ []) 1 million (λ t h. elim (cases_lt t (length s.factors)) [
        | inl l ↦ rw (get_or_append_left s.factors (v ∷ []) 0 t l) (between_each s.factors 1 million begun.discount t l)
        | inr l ↦ let e : length s.factors ≡ t = omega arith in rw (get_or_push s.factors v 0 t e) (low, high)
      ]);
      range = begun.range;
      places = omega (arith, begun.places);
      last = begun.last;
      rows = λ i t h k. all_rows columns s begun full i t h (omega arith);
    }

-- `T`
pub move_begins : (columns : Columns) (s : Sheet) (t i j p : ℕ) → Begun columns s → t + 1 ≡ length s.factors → i < s.states → j < s.states → 1 ≤ p → p ≤ million → length s.shares ≤ place s.states i j t → Begun columns (record { states = s.states; years = s.years; factors = s.factors; shares = padded s.shares (place s.states i j t) ++ p ∷ [] })
move_begins columns s t i j p begun last within inside low high short =
    let q = place s.states i j t in
    let count : length (padded s.shares (place s.states i j t) ++ p ∷ []) ≡ place s.states i j t + 1 = length_more s.shares q p short in
    let below : place s.states i j t < length s.factors * s.states * s.states = place_in_year s.states i j t (length s.factors) (omega arith) within inside in
    record {
      least_states = begun.least_states;
      most_states = begun.most_states;
      least_years = begun.least_years;
      most_years = begun.most_years;
      room = begun.room;
      years_come = begun.years_come;
      discount = begun.discount;
      range = each_between (padded s.shares q ++ p ∷ []) 0 million (λ k h. elim (cases_lt k q) [
        | inl l ↦ rw (more_below s.shares q p k short l) (omega arith, at_most s.shares million begun.range k)
        | inr l ↦ let e : k ≡ place s.states i j t = omega arith in rw (e, more_at s.shares q p short) (omega arith, high)
      ]);
      places = omega arith;
      last = λ k h. let e : k ≡ place s.states i j t = omega arith in rw (e, more_at s.shares q p short) low;
      rows = λ a u h k.
          total_same s.states s.years s.years s.factors s.factors (padded s.shares q ++ p ∷ []) s.shares u a (λ b l. more_below s.shares q p (place s.states a b u) short (place_lt_year s.states a b u i j t (omega arith) h l))
          ∙ begun.rows a u h k;
    }

-- `E`
pub end_lawful : (columns : Columns) (s : Sheet) → Begun columns s → length s.factors ≡ s.years → full_rows s ≡ true → LawfulBasis (record { states = s.states; years = s.years; factors = s.factors; shares = padded s.shares (s.years * s.states * s.states) })
end_lawful columns s begun come full =
    let q = s.years * s.states * s.states in
    let e : length s.factors * s.states * s.states ≡ s.years * s.states * s.states = ap (λ n. n * s.states * s.states) come in
    let short : length s.shares ≤ s.years * s.states * s.states = omega (arith, begun.places) in
    let new : Sheet = record { states = s.states; years = s.years; factors = s.factors; shares = padded s.shares (s.years * s.states * s.states) } in
    lawful_of_rows new
    (record { least_states = begun.least_states; most_states = begun.most_states; least_years = begun.least_years; most_years = begun.most_years; factor_places = length-map s.factors pos ∙ come; share_places = length-map (padded s.shares q) pos ∙ length_padded s.shares q short })
    begun.discount
    (each_between (padded s.shares q) 0 million (λ k _. rw (get_or_padded s.shares q k) (omega arith, at_most s.shares million begun.range k)))
    (λ i t h k. total_same s.states s.years s.years s.factors s.factors (padded s.shares q) s.shares t i (λ j _. get_or_padded s.shares q (place s.states i j t)) ∙ all_rows columns s begun full i t h (omega arith))
