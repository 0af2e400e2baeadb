-- The moves of a year are read on. Assumes nothing.
use Rattle.std.proofs.Common.{◌≡◌, ℕ, ◌+◌, ◌*◌, ◌<◌, ◌≤◌, inl, inr, true, List, [], ◌∷◌, ◌++◌, length, get_or, take, ◌==◌, ◌&&◌, refl, sym, ap, subst, add-mul, arith}
use Rattle.std.proofs.lemmas.Bool.Decides.{nat_tests, eqb_tells}
use Rattle.basis.specs.TransitionColumns.{place}
use Rattle.sheet.specs.Checks.{kind, padded, comes_after, last_pair}
use Rattle.sheet.specs.declared.columns.Columns.{Columns}
use Rattle.sheet.specs.Sheets.{Sheet, basis_of}
use Rattle.sheet.specs.Texts.{move_text, row_text, moves_text}
use Rattle.sheet.specs.declared.spot.Spot.{Spot}
use Rattle.sheet.proofs.Pairs.{after_shares}
use Rattle.sheet.proofs.Unbroken.{Keeps}
use Rattle.sheet.proofs.Walks.{walk_none, walk_line}
use Rattle.sheet.proofs.Onward.{Readable, at, Agrees, On, agrees_skip, agrees_more, on_count, years_at}

share_inside : (b : Sheet) (i j t : ℕ) → i < b.states → j < b.states → t < length b.factors → (basis_of b).share i j t ≡ get_or b.shares (place b.states i j t) 0
share_inside b i j t h k l = grind (arith, nat_tests)

-- the line of a move keeps its rules
move_keeps : (columns : Columns) (b : Sheet) (i j t : ℕ) (xs : List ℕ) (spot : Spot) → Readable columns b → i < b.states → j < b.states → t < length b.factors → length xs ≤ place b.states i j t → 1 ≤ get_or b.shares (place b.states i j t) 0 → Keeps (kind columns (at b (t + 1) xs) spot 84) (t ∷ i ∷ j ∷ get_or b.shares (place b.states i j t) 0 ∷ [])
move_keeps columns b i j t xs spot readable h k l low some =
    let size = readable.most_states in
    let long = readable.most_years in
    let came = readable.years_come in
    let most = readable.range (place b.states i j t) in
    let years = years_at b (t + 1) (omega arith) in
    let after = after_shares (at b (t + 1) xs) i j t (sym years) k in
    let order : (t + 1 == length (take (t + 1) b.factors) && comes_after (last_pair (at b (t + 1) xs)) (i, j)) ≡ true = grind (arith, nat_tests) in
    record {
      kept = record { stands = grind (arith, nat_tests); ranges = ((omega arith, omega arith), ((omega arith, omega arith), ((omega arith, omega arith), ((some, most), tt)))); rules = rw order refl };
      most = omega arith;
      few = (omega arith, (omega arith, (omega arith, (most, tt))));
    }

-- a move
move_walk : (columns : Columns) (b : Sheet) (i j t : ℕ) (xs : List ℕ) → Readable columns b → i < b.states → j < b.states → t < length b.factors → Agrees b (place b.states i j t) xs → On columns b (t + 1) xs (t + 1) (place b.states i (j + 1) t) (move_text t i j ((basis_of b).share i j t))
move_walk columns b i j t xs readable h k l agrees =
    let q = place b.states i j t in
    let p = get_or b.shares q 0 in
    let next : q + 1 ≡ place b.states i (j + 1) t = omega arith in
    rw (share_inside b i j t h k l) (subst (λ q. On columns b (t + 1) xs (t + 1) q (move_text t i j p)) next
    (elim (eqb_tells p 0) [
      | inl none ↦ rw (none.0) (record { shares = xs; agrees = agrees_skip b q xs agrees none.1; walks = walk_none columns (at b (t + 1) xs) })
      | inr some ↦
          let up : 1 ≤ p = omega (arith, some.1) in
          rw (some.0) (record {
            shares = padded xs q ++ p ∷ [];
            agrees = agrees_more b q p xs agrees refl up;
            walks = walk_line columns (at b (t + 1) xs) (at b (t + 1) (padded xs q ++ p ∷ [])) 84 (t ∷ i ∷ j ∷ p ∷ []) refl refl refl (λ spot. move_keeps columns b i j t xs spot readable h k l agrees.low up) (λ spot. refl);
          })
    ]))

-- the moves of a year
row_walk : (columns : Columns) (b : Sheet) (i t : ℕ) (xs : List ℕ) → Readable columns b → i < b.states → t < length b.factors → Agrees b (place b.states i 0 t) xs → On columns b (t + 1) xs (t + 1) (place b.states (i + 1) 0 t) (row_text (basis_of b) t i)
row_walk columns b i t xs readable h l agrees =
    let next : place b.states i b.states t ≡ place b.states (i + 1) 0 t = omega (arith, add-mul (t * b.states + i) 1 b.states) in
    subst (λ q. On columns b (t + 1) xs (t + 1) q (row_text (basis_of b) t i)) next
    (on_count columns b (λ j. move_text t i j ((basis_of b).share i j t)) (λ j. t + 1) (λ j. place b.states i j t) b.states (λ j ys k a. move_walk columns b i j t ys readable h k l a) 0 b.states (omega arith) xs agrees)

pub moves_walk : (columns : Columns) (b : Sheet) (t : ℕ) (xs : List ℕ) → Readable columns b → t < length b.factors → Agrees b (place b.states 0 0 t) xs → On columns b (t + 1) xs (t + 1) (place b.states 0 0 (t + 1)) (moves_text (basis_of b) t)
moves_walk columns b t xs readable l agrees =
    let next : place b.states b.states 0 t ≡ place b.states 0 0 (t + 1) = ap (λ r. r * b.states + 0) (omega (arith, add-mul t 1 b.states)) in
    subst (λ q. On columns b (t + 1) xs (t + 1) q (moves_text (basis_of b) t)) next
    (on_count columns b (row_text (basis_of b) t) (λ i. t + 1) (λ i. place b.states i 0 t) b.states (λ i ys h a. row_walk columns b i t ys readable h l a) 0 b.states (omega arith) xs agrees)
