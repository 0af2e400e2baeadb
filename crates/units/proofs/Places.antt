-- Lists by their places. Assumes nothing.
use Rattle.std.proofs.Common.{◌≡◌, ℕ, zero, suc, ◌+◌, ◌<◌, ◌≤◌, List, ◌∷◌, length, get_or, take, drop, map, refl, ap, ap₂, ◌∙◌, arith}
use Rattle.std.specs.List.{range_with_len}
use Rattle.std.proofs.lemmas.List.{drop_more}

-- functions that agree at some numbers make the same list of them
pub map_counting_same : {X : Type 0} (f g : ℕ → X) (a n : ℕ) → ((j : ℕ) → j < a + n → f j ≡ g j) → map f (range_with_len a n) ≡ map g (range_with_len a n)
map_counting_same f g a zero same = refl
map_counting_same f g a (suc n) same = ap₂ (λ x xs. x ∷ xs) (same a (omega arith)) (map_counting_same f g (a + 1) n (λ j below. same j (omega arith)))

-- a part of a list, from `start + a` on, is what stands at its places
pub part_by_places : {X : Type 0} (xs : List X) (start a n : ℕ) (d : X) → start + a + n ≤ length xs → take n (drop (start + a) xs) ≡ map (λ j. get_or xs (start + j) d) (range_with_len a n)
part_by_places xs start a zero d inside = refl
part_by_places xs start a (suc n) d inside =
    ap (take (suc n)) (drop_more xs (start + a) d (omega (arith, inside)))
    ∙ ap (λ ys. get_or xs (start + a) d ∷ ys) (ap (λ k. take n (drop k xs)) (omega arith) ∙ part_by_places xs start (a + 1) n d (omega (arith, inside)))
