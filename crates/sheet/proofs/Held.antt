-- The entries and rows of what a reader holds. Assumes nothing.
use Rattle.std.proofs.Common.{◌≡◌, ℕ, zero, suc, ◌+◌, ◌-◌, ◌*◌, ◌<◌, ◌≤◌, ◌==◌, false, true, Bool, List, [], ◌∷◌, ◌++◌, length, get_or, take, drop, set, sum, sum_by, inl, inr, mul-le-mul, refl, sym, ap, ◌∙◌, arith}
use Rattle.std.proofs.lemmas.Bool.{cases_lt}
use Rattle.std.proofs.lemmas.Bool.Decides.{nat_tests}
use Rattle.std.proofs.lemmas.List.{get_or-take, get_or_past, length-take, length-take-le, take_more_set, get_or-set_other, ext_get_or}
use Rattle.std.specs.List.{range_with_len, list_all}
use Rattle.units.proofs.Sums.{sum_by_places, sum_by_counting_same}
use Rattle.units.specs.Ranges.{million}
use Rattle.basis.specs.TransitionColumns as columns
use Rattle.basis.specs.TransitionColumns.{row_number}
use Rattle.sheet.specs.Checks.{row_total, full_rows, padded}
use Rattle.sheet.specs.Readers.{held}
use Rattle.sheet.specs.Sheets.{Sheet}
use Rattle.sheet.specs.declared.reader.Reader.{Reader}
use Rattle.sheet.proofs.Joins.{all_to, length_padded, get_or_padded}
use Rattle.sheet.proofs.Rows.{row_ends}

-- noughts stand after the entries that are held
pub held_entry : (xs : List ℕ) (next k : ℕ) → ((k : ℕ) → next ≤ k → get_or xs k 0 ≡ 0) → get_or (take next xs) k 0 ≡ get_or xs k 0
held_entry xs next k noughts =
    elim (cases_lt k next) [ inl l ↦ get_or-take next xs k 0 l | inr l ↦ get_or_past (take next xs) k 0 (omega (arith, length-take next xs)) ∙ sym (noughts k l) ]

-- the row of a state is what stands in the column from its first place on
pub held_row : (xs : List ℕ) (next m i t : ℕ) → ((k : ℕ) → next ≤ k → get_or xs k 0 ≡ 0) → row_number m i t * m + m ≤ length xs → sum_by (λ j. get_or (take next xs) (columns.place m i j t) 0) (range_with_len 0 m) ≡ sum (take m (drop (row_number m i t * m) xs))
held_row xs next m i t noughts inside =
    let start : row_number m i t * m + 0 ≡ row_number m i t * m = omega arith in
    sum_by_counting_same (λ j. get_or (take next xs) (columns.place m i j t) 0) (λ j. get_or xs (row_number m i t * m + j) 0) 0 m (λ j _. held_entry xs next (columns.place m i j t) noughts)
    ∙ sum_by_places xs (row_number m i t * m) 0 m (omega arith)
    ∙ ap (λ k. sum (take m (drop k xs))) start

-- one state is enough to fail
pub one_fails : (p : ℕ → Bool) (a n i : ℕ) → a ≤ i → i < a + n → p i ≡ false → list_all p (range_with_len a n) ≡ false
one_fails p a zero i low high h = absurd (omega arith)
one_fails p a (suc n) i low high h =
    elim (cases_lt a i) [
      | inl l ↦ let more = one_fails p (a + 1) n i (omega arith) (omega arith) h in grind (arith, nat_tests)
      | inr l ↦ let e : i ≡ a = omega arith in let here : p a ≡ false = rw e at h in grind (arith, nat_tests)
    ]

-- nothing is held before the first line
pub none_held : (r : Reader) → r.years ≡ 0 → (r.come ≡ 0) × (r.next ≡ 0)
none_held r first =
    let none : r.come ≡ 0 = omega (arith, r.years_come) in
    let places = rw none at r.places in
    (none, omega arith)

-- the rows of the last year
pub places_fit : (m n : ℕ) → m ≤ 8 → n ≤ 120 → n * m * m ≤ 7680
places_fit m n few short = omega (arith, mul-le-mul (mul-le-mul short few) few)

pub reader_row : (r : Reader) (i : ℕ) → length r.shares ≡ 7680 → 0 < r.come → i < r.states → row_total (held r) (r.come - 1) i ≡ sum (take r.states (drop (row_number r.states i (r.come - 1) * r.states) r.shares))
reader_row r i long some h =
    let ends : row_number r.states i (r.come - 1) * r.states + r.states ≤ r.years * r.states * r.states = row_ends r.states r.years i (r.come - 1) h (omega (arith, r.years_come)) in
    let fit = places_fit r.states r.years r.most_states r.most_years in
    held_row r.shares r.next r.states i (r.come - 1) r.noughts (omega arith)

full_is : (r : Reader) → length r.factors ≡ 120 → 0 < r.come → full_rows (held r) ≡ list_all (λ i. row_total (held r) (r.come - 1) i == million) (range_with_len 0 r.states)
full_is r long some =
    let e : length (take r.come r.factors) ≡ r.come = length-take-le r.come r.factors (omega (arith, r.years_come, r.most_years)) in
    let come : (r.come == 0) ≡ false = grind (arith, nat_tests) in
    rw (e, come) refl

pub row_misses : (r : Reader) (i : ℕ) → length r.factors ≡ 120 → length r.shares ≡ 7680 → 0 < r.come → i < r.states → (sum (take r.states (drop (row_number r.states i (r.come - 1) * r.states) r.shares)) ≡ million → ⊥) → full_rows (held r) ≡ false
row_misses r i years places some h misses =
    let e = reader_row r i places some h in
    full_is r years some ∙ one_fails (λ i. row_total (held r) (r.come - 1) i == million) 0 r.states i (omega arith) (omega arith) (grind (arith, nat_tests))

pub rows_full : (r : Reader) → length r.factors ≡ 120 → 0 < r.come → ((i : ℕ) → i < r.states → row_total (held r) (r.come - 1) i ≡ million) → full_rows (held r) ≡ true
rows_full r years some whole =
    full_is r years some ∙ all_to (λ i. row_total (held r) (r.come - 1) i == million) 0 r.states (λ i _ h. let e = whole i (omega arith) in grind (arith, nat_tests))

-- the shares up to a place are those that are held, with noughts after them; and one more share is
-- put at its place
pub take_padded : (xs : List ℕ) (next to : ℕ) → next ≤ to → to ≤ length xs → ((k : ℕ) → next ≤ k → get_or xs k 0 ≡ 0) → take to xs ≡ padded (take next xs) to
take_padded xs next to low high noughts =
    let long : length (take to xs) ≡ to = length-take-le to xs high in
    ext_get_or 0 (take to xs) (padded (take next xs) to) (omega (arith, long, length_padded (take next xs) to (omega (arith, length-take next xs))))
    (λ k h. get_or-take to xs k 0 (omega (arith, long)) ∙ sym (held_entry xs next k noughts) ∙ sym (get_or_padded (take next xs) to k))

pub put_held : (xs : List ℕ) (next place p : ℕ) → next ≤ place → place < length xs → ((k : ℕ) → next ≤ k → get_or xs k 0 ≡ 0) → take (place + 1) (set xs place p) ≡ padded (take next xs) place ++ p ∷ []
put_held xs next place p low high noughts =
    take_more_set xs place p high ∙ ap (λ ys. ys ++ p ∷ []) (take_padded xs next place low (omega arith) noughts)

-- and noughts stand after it
pub put_noughts : (xs : List ℕ) (next place p : ℕ) → next ≤ place → ((k : ℕ) → next ≤ k → get_or xs k 0 ≡ 0) → (k : ℕ) → place + 1 ≤ k → get_or (set xs place p) k 0 ≡ 0
put_noughts xs next place p low noughts k above =
    get_or-set_other xs place k p 0 (λ e. omega arith) ∙ noughts k (omega arith)

-- what is held with one share more, by equal numbers
abbrev pub with_shares : Reader → List ℕ → Sheet
with_shares r xs = record { states = r.states; years = r.years; factors = take r.come r.factors; shares = xs }

pub more_held : (r : Reader) (xs : List ℕ) (i j t p a b u q : ℕ) → xs ≡ padded (take r.next r.shares) (columns.place r.states i j t) ++ p ∷ [] → i ≡ a → j ≡ b → t ≡ u → p ≡ q → with_shares r xs ≡ with_shares r (padded (take r.next r.shares) (columns.place r.states a b u) ++ q ∷ [])
more_held r xs i j t p a b u q is from to year share =
    let place : columns.place r.states i j t ≡ columns.place r.states a b u = rw (from, to, year) refl in
    ap (with_shares r) (is ∙ ap (λ k. padded (take r.next r.shares) k ++ p ∷ []) place ∙ ap (λ x. padded (take r.next r.shares) (columns.place r.states a b u) ++ x ∷ []) share)
