-- Columns of known numbers. Assumes nothing.
use Rattle.std.proofs.Common.{◌≡◌, ℕ, zero, suc, ◌<◌, ◌≤◌, length, get_or, Bool, true, ◌&&◌, T, leb, List, [], ◌∷◌, map, pos, le_of_suc-le-suc, not-suc-le-zero, arith, ℤ, sym, ap, ◌∙◌}
use borrow.Author.Differences.{ints}
use Rattle.std.proofs.lemmas.Bool.Decides.{nat_tests}
use Rattle.std.proofs.lemmas.List.{get_or-map, length-map}
use Rattle.units.specs.Columns.{AllBetween}

-- the test that is computed: every number lies in the range
abbrev pub ranged : ℕ → ℕ → List ℕ → Bool
ranged low high [] = true
ranged low high (x ∷ xs) = leb low x && (leb x high && ranged low high xs)

least : (low high x : ℕ) (rest : Bool) → T (leb low x && (leb x high && rest)) → T (leb low x)
least low high x rest passed = grind (arith, nat_tests)

most : (low high x : ℕ) (rest : Bool) → T (leb low x && (leb x high && rest)) → T (leb x high)
most low high x rest passed = grind (arith, nat_tests)

later : (low high x : ℕ) (rest : Bool) → T (leb low x && (leb x high && rest)) → T rest
later low high x rest passed = grind (arith, nat_tests)

pub ranged_between : (low high : ℕ) (xs : List ℕ) → T (ranged low high xs) → AllBetween (pos low) (pos high) (map pos xs)
ranged_between low high [] passed t inside = absurd (not-suc-le-zero inside)
ranged_between low high (x ∷ xs) passed zero inside =
    let above = least low high x (ranged low high xs) passed in
    let below = most low high x (ranged low high xs) passed in
    record { least = grind (arith, ints, nat_tests); most = grind (arith, ints, nat_tests) }
ranged_between low high (x ∷ xs) passed (suc t) inside = ranged_between low high xs (later low high x (ranged low high xs) passed) t (le_of_suc-le-suc inside)

-- what holds of a column holds of the numbers that are kept of it
pub kept_between : (xs : List ℕ) (column : List ℤ) (low high : ℕ) → map pos xs ≡ column → AllBetween (pos low) (pos high) column → (t : ℕ) → t < length xs → (low ≤ get_or xs t 0) × (get_or xs t 0 ≤ high)
kept_between xs column low high so all t inside =
    let long : length column ≡ length xs = ap length (sym so) ∙ length-map xs pos in
    let is : get_or column t (pos 0) ≡ pos (get_or xs t 0) = ap (λ ys. get_or ys t (pos 0)) (sym so) ∙ get_or-map pos xs t 0 (pos 0) inside in
    let bound = all t (omega (arith, inside, long)) in
    (omega (arith, ints, bound.least, is), omega (arith, ints, bound.most, is))
