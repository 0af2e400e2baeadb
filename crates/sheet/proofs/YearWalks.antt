-- The years of a sheet are read on. Assumes nothing.
use Rattle.std.proofs.Common.{◌≡◌, ℕ, zero, suc, ◌+◌, ◌-◌, ◌*◌, ◌<◌, ◌≤◌, true, false, List, [], ◌∷◌, ◌++◌, length, get_or, take, ◌==◌, eq-eqb, refl, sym, ap, ◌∙◌, arith}
use Rattle.std.proofs.lemmas.Bool.Decides.{nat_tests}
use Rattle.std.proofs.lemmas.List.{take_more}
use Rattle.units.specs.Ranges.{million}
use Rattle.units.proofs.Sums.{sum_by_counting_same}
use Rattle.basis.specs.TransitionColumns.{place}
use Rattle.sheet.specs.Checks.{kind, row_total, full_rows, share_so_far}
use Rattle.sheet.specs.declared.columns.Columns.{Columns}
use Rattle.sheet.specs.Sheets.{Sheet, basis_of}
use Rattle.sheet.specs.Texts.{line_text, moves_text, year_text, years_text}
use Rattle.sheet.specs.declared.spot.Spot.{Spot}
use Rattle.sheet.proofs.Joins.{all_to, place_in_year}
use Rattle.sheet.proofs.Unbroken.{Keeps}
use Rattle.sheet.proofs.Walks.{Walks, walk_on, walk_line}
use Rattle.sheet.proofs.MoveWalks.{moves_walk}
use Rattle.sheet.proofs.Onward.{Readable, at, Agrees, On, on_count, years_at}

-- where a year begins
pub place_start : (m t : ℕ) → place m 0 0 t ≡ t * m * m
place_start m t = let row : t * m + 0 ≡ t * m = omega arith in rw row (omega arith)

-- rule 8 on the way
row_on_way : (b : Sheet) (i t y : ℕ) (xs : List ℕ) → i < b.states → t < y → Agrees b (place b.states 0 0 y) xs → row_total (at b y xs) t i ≡ row_total b t i
row_on_way b i t y xs h l agrees =
    sum_by_counting_same (λ j. share_so_far (at b y xs) i j t) (λ j. share_so_far b i j t) 0 b.states (λ j k. agrees.same (place b.states i j t) (omega (arith, place_start b.states y, place_in_year b.states i j t y l h (omega arith))))

pub full_on_way : (b : Sheet) (y : ℕ) (xs : List ℕ) → y ≤ length b.factors → Agrees b (place b.states 0 0 y) xs → ((i t : ℕ) → i < b.states → t + 1 ≡ y → row_total b t i ≡ million) → full_rows (at b y xs) ≡ true
full_on_way b zero xs most agrees whole = refl
full_on_way b (suc t) xs most agrees whole =
    let years = years_at b (suc t) most in
    let some : (suc t == 0) ≡ false = grind (arith, nat_tests) in
    let before : suc t - 1 ≡ t = omega arith in
    rw (years, some, before) (all_to (λ i. row_total (at b (suc t) xs) t i == million) 0 b.states (λ i _ h.
    eq-eqb (row_total (at b (suc t) xs) t i) million (row_on_way b i t (suc t) xs (omega arith) (omega arith) agrees ∙ whole i t (omega arith) (omega arith))))

-- the line of a year keeps its rules
year_keeps : (columns : Columns) (b : Sheet) (t : ℕ) (xs : List ℕ) (spot : Spot) → Readable columns b → t < length b.factors → Agrees b (place b.states 0 0 t) xs → Keeps (kind columns (at b t xs) spot 68) (t ∷ get_or b.factors t 0 ∷ [])
year_keeps columns b t xs spot readable l agrees =
    let long = readable.most_years in
    let came = readable.years_come in
    let v = readable.discount t l in
    let years = years_at b t (omega arith) in
    let order : (t == length (take t b.factors)) ≡ true = eq-eqb _ _ (sym years) in
    let full : full_rows (at b t xs) ≡ true = full_on_way b t xs (omega arith) agrees (λ i u h e. readable.rows i u h (omega arith)) in
    record {
      kept = record { stands = grind (arith, nat_tests); ranges = ((omega arith, omega arith), (v, tt)); rules = rw (order, full) refl };
      most = omega arith;
      few = (omega arith, (v.1, tt));
    }

factor_inside : (b : Sheet) (t : ℕ) → t < length b.factors → (basis_of b).factor t ≡ get_or b.factors t 0
factor_inside b t l = grind (arith, nat_tests)

-- a year
year_walk : (columns : Columns) (b : Sheet) (t : ℕ) (xs : List ℕ) → Readable columns b → t < length b.factors → Agrees b (place b.states 0 0 t) xs → On columns b t xs (t + 1) (place b.states 0 0 (t + 1)) (year_text (basis_of b) t)
year_walk columns b t xs readable l agrees =
    let v = get_or b.factors t 0 in
    let made : record { states = b.states; years = b.years; factors = take t b.factors ++ v ∷ []; shares = xs } ≡ at b (t + 1) xs = ap (λ fs. record { states = b.states; years = b.years; factors = fs; shares = xs }) (sym (take_more b.factors t 0 l)) in
    let line : Walks columns (at b t xs) (line_text 68 (t ∷ v ∷ [])) (at b (t + 1) xs) = walk_line columns (at b t xs) (at b (t + 1) xs) 68 (t ∷ v ∷ []) refl refl refl (λ spot. year_keeps columns b t xs spot readable l agrees) (λ spot. made) in
    let more = moves_walk columns b t xs readable l agrees in
    rw (factor_inside b t l) (record { shares = more.shares; agrees = more.agrees; walks = walk_on columns (at b t xs) (at b (t + 1) xs) (at b (t + 1) more.shares) (line_text 68 (t ∷ v ∷ [])) (moves_text (basis_of b) t) line more.walks })

pub years_walk : (columns : Columns) (b : Sheet) → Readable columns b → On columns b 0 [] (length b.factors) (place b.states 0 0 (length b.factors)) (years_text (basis_of b) (length b.factors))
years_walk columns b readable =
    let none : Agrees b (place b.states 0 0 0) [] = record { low = omega arith; same = λ k h. absurd (omega arith); last = λ k h. absurd (omega arith) } in
    on_count columns b (year_text (basis_of b)) (λ t. t) (λ t. place b.states 0 0 t) (length b.factors) (λ t ys l a. year_walk columns b t ys readable l a) 0 (length b.factors) (omega arith) [] none
