-- The columns keep the rules of a table. Assumes nothing.
use Rattle.std.proofs.Common.{◌≡◌, ℕ, zero, suc, ◌+◌, ◌*◌, ◌<◌, ◌≤◌, Bool, true, ◌&&◌, T, eqb, List, [], ◌∷◌, map, length, get_or, take, drop, replicate, ℤ, pos, refl, subst, arith}
use borrow.Author.Differences.{ints}
use Rattle.std.proofs.lemmas.Bool.Decides.{nat_tests}
use Rattle.units.specs.Columns.{Between}
use Rattle.units.specs.Ranges.{million}
use Rattle.units.proofs.Ranged.{ranged_between}
use Rattle.basis.specs.TransitionColumns.{row, row_number, LawfulRow, Fit}
use Rattle.pension.specs.Disability.{counts, factors, shares}

-- the test that is computed: the shares out of each of three states add up to a million
abbrev whole_rows : List ℕ → Bool
whole_rows [] = true
whole_rows (a ∷ []) = true
whole_rows (a ∷ (b ∷ [])) = true
whole_rows (a ∷ (b ∷ (c ∷ rest))) = eqb (a + (b + c)) million && whole_rows rest

first_row : (a b c : ℕ) (rest : Bool) → T (eqb (a + (b + c)) million && rest) → a + (b + c) ≡ million
first_row a b c rest passed = grind (arith, nat_tests)

later_rows : (a b c : ℕ) (rest : Bool) → T (eqb (a + (b + c)) million && rest) → T rest
later_rows a b c rest passed = grind (arith, nat_tests)

abbrev three : ℕ → ℕ → ℕ → List ℤ
three a b c = pos a ∷ (pos b ∷ (pos c ∷ []))

each_share : (a b c : ℕ) → a + (b + c) ≡ million → (t : ℕ) → t < 3 → Between (pos 0) (pos million) (get_or (three a b c) t (pos 0))
each_share a b c whole zero inside = record { least = omega (arith, ints); most = omega (arith, ints, whole) }
each_share a b c whole (suc zero) inside = record { least = omega (arith, ints); most = omega (arith, ints, whole) }
each_share a b c whole (suc (suc zero)) inside = record { least = omega (arith, ints); most = omega (arith, ints, whole) }
each_share a b c whole (suc (suc (suc t))) inside = absurd (omega (arith, inside))

lawful_rows : (xs : List ℕ) → T (whole_rows xs) → (r : ℕ) → r * 3 + 3 ≤ length xs → LawfulRow (row 3 (map pos xs) r)
lawful_rows [] passed r inside = absurd (omega (arith, inside))
lawful_rows (a ∷ []) passed r inside = absurd (omega (arith, inside))
lawful_rows (a ∷ (b ∷ [])) passed r inside = absurd (omega (arith, inside))
lawful_rows (a ∷ (b ∷ (c ∷ rest))) passed zero inside =
    let whole = first_row a b c (whole_rows rest) passed in
    record { range = each_share a b c whole; whole = omega (arith, ints, whole) }
lawful_rows (a ∷ (b ∷ (c ∷ rest))) passed (suc r) inside =
    let next : suc (suc (suc (r * 3))) ≡ suc r * 3 = omega arith in
    subst (λ k. LawfulRow (take 3 (drop k (map pos (a ∷ (b ∷ (c ∷ rest))))))) next (lawful_rows rest (later_rows a b c (whole_rows rest) passed) r (omega (arith, inside)))

pub disability_fit : Fit 3 10 factors shares
disability_fit = record {
  size = record { least_states = omega arith; most_states = omega arith; least_years = omega arith; most_years = omega arith; factor_places = refl; share_places = refl };
  discount = ranged_between 1 million (replicate 10 966184) tt;
  rows = λ i t state year. let long : length counts ≡ 90 = refl in lawful_rows counts tt (row_number 3 i t) (omega (arith, state, year, long));
}
