-- Rows of a column of shares. Assumes nothing.
use Rattle.std.proofs.Common.{◌≡◌, ℕ, ◌+◌, ◌*◌, ◌/◌, ◌%◌, ◌<◌, ◌≤◌, List, length, get_or, ℤ, pos, ap, ◌∙◌, subst, mul-le-mul_right, mod-lt, div-lt_iff_lt-mul, add-mul, mul-le-mul_left, div-add-mod', arith}
use lib.Arith.{digits_lt}
use Rattle.std.proofs.Math.Nat.{mul-div_cancel}
use Rattle.std.proofs.lemmas.Simd.{length-chunk, get_or-chunk}
use Rattle.units.specs.Columns.{AllBetween, Between}
use Rattle.units.specs.Ranges.{million}
use Rattle.units.specs.declared.fault.Fault.{Fault}
use Rattle.basis.specs.TransitionColumns.{row_number, row, LawfulRow, LawfulBelow, LawfulRows, Fit, FirstUnlawful, Refuses, unfit_size, unfit_factor, unfit_row}

-- how many rows a column of n years has
pub row_count : (m n : ℕ) (shares : List ℤ) → 1 ≤ m → length shares ≡ n * m * m → length shares / m ≡ n * m
row_count m n shares some places = ap (λ l. l / m) places ∙ mul-div_cancel (n * m) some

-- a row ends where the column ends, or before
pub row_ends : (r rows m : ℕ) → r < rows → r * m + m ≤ rows * m
row_ends r rows m below = omega (arith, mul-le-mul_right m below, add-mul r 1 m)

pub most_places : (m n : ℕ) → m ≤ 8 → n ≤ 120 → n * m * m ≤ 7680
most_places m n states years =
    let rows : n * m ≤ 960 = omega (arith, mul-le-mul_left n states) in
    omega (arith, mul-le-mul_left (n * m) states)

-- rows by their number, and by state and year
pub rows_by_state : (m n : ℕ) (shares : List ℤ) → LawfulBelow m shares (n * m) → LawfulRows m n shares
rows_by_state m n shares all i t state year = all (row_number m i t) (digits_lt year state)

pub row_year : (r n m : ℕ) → 1 ≤ m → r < n * m → r / m < n
row_year r n m some below = (div-lt_iff_lt-mul {k = m} {x = r} {y = n} some).1 below

pub rows_by_number : (m n : ℕ) (shares : List ℤ) → 1 ≤ m → LawfulRows m n shares → LawfulBelow m shares (n * m)
rows_by_number m n shares some each r below = subst (λ q. LawfulRow (row m shares q)) (div-add-mod' r m) (each (r % m) (r / m) (mod-lt r some) (row_year r n m some below))

pub first_unlawful_lem : (m n : ℕ) (shares : List ℤ) (r : ℕ) → 1 ≤ m → r < n * m → (LawfulRow (row m shares r) → ⊥) → LawfulBelow m shares r → FirstUnlawful m n shares (r % m) (r / m)
first_unlawful_lem m n shares r some below bad before =
    let is = div-add-mod' r m in
    record {
      inside_state = mod-lt r some;
      inside_year = row_year r n m some below;
      unlawful = λ lawful. bad (subst (λ q. LawfulRow (row m shares q)) is lawful);
      years_before = λ h u inside earlier. before (row_number m h u) (omega (arith, digits_lt earlier inside, is));
      states_before = λ h lower. before (row_number m h (r / m)) (omega (arith, is));
    }

pub fit_entries : (m n : ℕ) (factors shares : List ℤ) → Fit m n factors shares → AllBetween (pos 0) (pos million) shares
fit_entries m n factors shares fit p inside =
    let some : 1 ≤ m = omega (arith, fit.size.least_states) in
    let long = fit.size.share_places in
    let here : p / m < n * m = row_year p (n * m) m some (omega (arith, long)) in
    let j = mod-lt p some in
    let wide = length-chunk (p / m * m) m shares (omega (arith, long, row_ends (p / m) (n * m) m here)) in
    let entry = (rows_by_number m n shares some fit.rows (p / m) here).range (p % m) (omega (arith, j, wide)) in
    subst (Between (pos 0) (pos million)) (get_or-chunk (p / m * m) m shares (p % m) (pos 0) j ∙ ap (λ q. get_or shares q (pos 0)) (div-add-mod' p m)) entry

pub unfit : (m n : ℕ) (factors shares : List ℤ) (fault : Fault) → Refuses m n factors shares fault → Fit m n factors shares → ⊥
unfit m n factors shares fault (unfit_size is bad) fit = bad fit.size
unfit m n factors shares fault (unfit_factor size bad) fit = bad.first.outside (fit.discount bad.year bad.first.inside)
unfit m n factors shares fault (unfit_row size discount bad) fit = bad.first.unlawful (fit.rows bad.state bad.year bad.first.inside_state bad.first.inside_year)
