-- A sheet is a lawful basis exactly if its entries lie in their ranges and each row makes the million. Assumes nothing.
use Rattle.std.proofs.Common.{◌≡◌, ℕ, ◌+◌, ◌*◌, ◌/◌, ◌%◌, ◌<◌, ◌≤◌, List, length, get_or, inl, inr, refl, take, drop, pos, map, ℤ, sum_by, sym, ap, ◌∙◌, subst, arith, add-mul, mul-le-mul_right, div-add-mod', mod-lt, div-lt_iff_lt-mul, length-take, length-drop, get_or-take, get_or-drop}
use Rattle.std.specs.List.{range_with_len}
use Rattle.std.proofs.lemmas.Bool.{cases_lt}
use Rattle.std.proofs.lemmas.Int.{ints}
use Rattle.std.proofs.Math.Arith.{digits_lt}
use Rattle.std.proofs.lemmas.List.{length-map, take-map, drop-map, get_or-map, get_or_past}
use Rattle.units.specs.Columns.{Between, AllBetween}
use Rattle.units.specs.Ranges.{million}
use Rattle.units.specs.Sums.{int_sum_by}
use Rattle.units.proofs.Ranged.{kept_between}
use Rattle.units.proofs.Sums.{sum_by_places, int_sum_by_pos}
use Rattle.basis.specs.TransitionColumns.{row_number, place, row, LawfulRow, FitSize}
use Rattle.sheet.specs.Checks.{row_total}
use Rattle.sheet.specs.Sheets.{Sheet, LawfulBasis}

-- ---- ranges

pub each_between : (xs : List ℕ) (low high : ℕ) → ((k : ℕ) → k < length xs → (low ≤ get_or xs k 0) × (get_or xs k 0 ≤ high)) → AllBetween (pos low) (pos high) (map pos xs)
each_between xs low high each k inside =
    let here : k < length xs = omega (arith, length-map xs pos) in
    let bound = each k here in
    let is : get_or (map pos xs) k (pos 0) ≡ pos (get_or xs k 0) = get_or-map pos xs k 0 (pos 0) here in
    record { least = omega (arith, ints, bound.0, is); most = omega (arith, ints, bound.1, is) }

pub between_each : (xs : List ℕ) (low high : ℕ) → AllBetween (pos low) (pos high) (map pos xs) → (k : ℕ) → k < length xs → (low ≤ get_or xs k 0) × (get_or xs k 0 ≤ high)
between_each xs low high all = kept_between xs (map pos xs) low high refl all

-- past the end stands nought
pub at_most : (xs : List ℕ) (high : ℕ) → AllBetween (pos 0) (pos high) (map pos xs) → (k : ℕ) → get_or xs k 0 ≤ high
at_most xs high all k =
    elim (cases_lt k (length xs)) [ inl l ↦ (between_each xs 0 high all k l).1 | inr l ↦ let e : get_or xs k 0 ≡ 0 = get_or_past xs k 0 l in omega arith ]

-- ---- rows

-- what stands in a row
pub get_or_row : (m r j : ℕ) (shares : List ℤ) (d : ℤ) → j < m → get_or (row m shares r) j d ≡ get_or shares (r * m + j) d
get_or_row m r j shares d h = get_or-take m (drop (r * m) shares) j d h ∙ get_or-drop (r * m) shares j d

length_row : (m r : ℕ) (shares : List ℤ) → r * m + m ≤ length shares → length (row m shares r) ≡ m
length_row m r shares h = length-take m (drop (r * m) shares) ∙ omega (arith, length-drop (r * m) shares)

-- what a row comes to
row_sum : (xs : List ℕ) (m r : ℕ) → r * m + m ≤ length xs → int_sum_by (λ z. z) (row m (map pos xs) r) ≡ pos (sum_by (λ j. get_or xs (r * m + j) 0) (range_with_len 0 m))
row_sum xs m r inside =
    let entries : row m (map pos xs) r ≡ map pos (take m (drop (r * m) xs)) = ap (take m) (drop-map pos (r * m) xs) ∙ take-map pos m (drop (r * m) xs) in
    let start : r * m ≡ r * m + 0 = omega arith in
    ap (int_sum_by (λ z. z)) entries ∙ int_sum_by_pos (take m (drop (r * m) xs)) ∙ ap pos (ap (λ k. sum_by (λ x. x) (take m (drop k xs))) start ∙ sym (sum_by_places xs (r * m) 0 m (omega arith)))

lawful_row : (xs : List ℕ) (m r : ℕ) → r * m + m ≤ length xs → AllBetween (pos 0) (pos million) (map pos xs) → sum_by (λ j. get_or xs (r * m + j) 0) (range_with_len 0 m) ≡ million → LawfulRow (row m (map pos xs) r)
lawful_row xs m r inside range whole =
    let long = length-map xs pos in
    let size : length (row m (map pos xs) r) ≡ m = length_row m r (map pos xs) (omega arith) in
    record {
      range = λ j h. subst (Between (pos 0) (pos million)) (sym (get_or_row m r j (map pos xs) (pos 0) (omega arith))) (range (r * m + j) (omega arith));
      whole = row_sum xs m r inside ∙ ap pos whole;
    }

-- a row of a year ends within the shares
pub row_ends : (m n i t : ℕ) → i < m → t < n → row_number m i t * m + m ≤ n * m * m
row_ends m n i t h k =
    let below : row_number m i t < n * m = digits_lt k h in
    omega (arith, mul-le-mul_right m below, add-mul (row_number m i t) 1 m)

pub lawful_of_rows : (s : Sheet) → FitSize s.states s.years (map pos s.factors) (map pos s.shares) → AllBetween (pos 1) (pos million) (map pos s.factors) → AllBetween (pos 0) (pos million) (map pos s.shares) → ((i t : ℕ) → i < s.states → t < s.years → row_total s t i ≡ million) → LawfulBasis s
lawful_of_rows s size discount range rows = record {
  size = size;
  discount = discount;
  rows = λ i t h k. lawful_row s.shares s.states (row_number s.states i t) (omega (arith, row_ends s.states s.years i t h k, size.share_places, length-map s.shares pos)) range (rows i t h k);
}

pub rows_of_lawful : (s : Sheet) → LawfulBasis s → (i t : ℕ) → i < s.states → t < s.years → row_total s t i ≡ million
rows_of_lawful s lawful i t h k =
    let ends : row_number s.states i t * s.states + s.states ≤ length s.shares = omega (arith, row_ends s.states s.years i t h k, lawful.size.share_places, length-map s.shares pos) in
    let e = row_sum s.shares s.states (row_number s.states i t) ends in
    omega (arith, ints, e, (lawful.rows i t h k).whole)

-- each place is that of a move
move_at : (m n k : ℕ) → 2 ≤ m → k < n * m * m → (i : ℕ) × (j : ℕ) × (t : ℕ) × (i < m) × (j < m) × (t < n) × (k ≡ place m i j t)
move_at m n k two h =
    let some : 0 < m = omega arith in
    let r : k / m < n * m = (div-lt_iff_lt-mul some).1 h in
    let t : k / m / m < n = (div-lt_iff_lt-mul some).1 r in
    let e : k / m ≡ k / m / m * m + k / m % m = sym (div-add-mod' (k / m) m) in
    (k / m % m, k % m, k / m / m, mod-lt (k / m) some, mod-lt k some, t, sym (div-add-mod' k m) ∙ ap (λ q. q * m + k % m) e)

pub shares_of_lawful : (s : Sheet) → LawfulBasis s → AllBetween (pos 0) (pos million) (map pos s.shares)
shares_of_lawful s lawful k inside =
    let p = move_at s.states s.years k lawful.size.least_states (omega (arith, lawful.size.share_places)) in
    let i = p.0 in
    let j = p.1 in
    let t = p.2 in
    let long : length (row s.states (map pos s.shares) (row_number s.states i t)) ≡ s.states = length_row s.states (row_number s.states i t) (map pos s.shares) (omega (arith, row_ends s.states s.years i t p.3 p.5, lawful.size.share_places)) in
    let inner = (lawful.rows i t p.3 p.5).range j (omega arith) in
    subst (Between (pos 0) (pos million)) (get_or_row s.states (row_number s.states i t) j (map pos s.shares) (pos 0) p.4 ∙ ap (λ q. get_or (map pos s.shares) q (pos 0)) (sym p.6)) inner
