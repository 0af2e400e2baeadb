-- The weighted sum of the mean. Assumes nothing.
use Rattle.std.proofs.Common.{◌≡◌, ℕ, ◌+◌, ◌*◌, ◌≤◌, ◌⊎◌, List, [], ◌∷◌, map, ℤ, pos, ◌+ℤ◌, ◌*ℤ◌, sum, sym, refl, ap, ◌∙◌, subst, inl, inr, add-mul, arith}
use borrow.Author.Differences.{ints}
use Rattle.std.specs.Int.{saturate_to_bits}
use Rattle.std.specs.List.{AllByRecursion}
use Rattle.std.proofs.Math.IntN.{+ℤ_assoc}
use Rattle.std.proofs.lemmas.List.Sums.{sum_by-cons}
use Rattle.units.specs.Near.{Within}
use Rattle.units.specs.Ranges.{million}
use Rattle.units.specs.Sums.{int_sum_by}
use Rattle.units.proofs.Distances.{within_more, within_add, within_times}
use Rattle.valuation.specs.Means.{weighted, LawfulFigure, products}

-- no share or no figure more
pub weighted_all : (sum : ℤ) (ps : List ℕ) (xs : List ℤ) → (ps ≡ []) ⊎ (xs ≡ []) → weighted sum ps xs ≡ sum
weighted_all sum [] xs e = refl
weighted_all sum (p ∷ ps) [] e = refl
weighted_all sum (p ∷ ps) (x ∷ xs) (inl e) = cc
weighted_all sum (p ∷ ps) (x ∷ xs) (inr e) = cc

pub unsaturated : (z : ℤ) → Within 9000000000000000000 z → saturate_to_bits 63 z ≡ z
unsaturated z h = grind (arith, ints, h.low, h.high)

-- the largest lawful figure: 64 bits hold its product with a million, and more
abbrev most : ℕ
most = 5000000000000

-- on a row that is no more than a whole nothing saturates; `before` is what the row has had so far
pub weighted_is : (row : List ℕ) (xs : List ℤ) (before : ℕ) (so_far : ℤ) → before + sum row ≤ million → Within (before * most) so_far → AllByRecursion LawfulFigure xs → weighted so_far row xs ≡ so_far +ℤ products row xs
weighted_is [] xs before so_far whole small each = omega (arith, ints)
weighted_is (p ∷ ps) [] before so_far whole small each = omega (arith, ints)
weighted_is (p ∷ ps) (x ∷ xs) before so_far whole small each =
    let cons = sum_by-cons (λ q. q) p ps in
    let part : Within (p * most) (pos p *ℤ x) = within_times p each.0 in
    let more : Within ((before + p) * most) (so_far +ℤ pos p *ℤ x) = subst (λ d. Within d (so_far +ℤ pos p *ℤ x)) (sym (add-mul before p most)) (within_add small part) in
    let one : saturate_to_bits 63 (pos p *ℤ x) ≡ pos p *ℤ x = unsaturated _ (within_more (omega arith) part) in
    let both : saturate_to_bits 63 (so_far +ℤ pos p *ℤ x) ≡ so_far +ℤ pos p *ℤ x = unsaturated _ (within_more (omega arith) more) in
    rw (one, both) (weighted_is ps xs (before + p) (so_far +ℤ pos p *ℤ x) (omega arith) more each.1 ∙ +ℤ_assoc so_far (pos p *ℤ x) (products ps xs))

pub products_map : (share : ℕ → ℕ) (f : ℕ → ℤ) (js : List ℕ) → products (map share js) (map f js) ≡ int_sum_by (λ j. pos (share j) *ℤ f j) js
products_map share f [] = refl
products_map share f (j ∷ js) = ap (λ z. pos (share j) *ℤ f j +ℤ z) (products_map share f js)

pub all_map_every : {X Y : Type 0} (P : Y → Type 0) (f : X → Y) → ((x : X) → P (f x)) → (xs : List X) → AllByRecursion P (map f xs)
all_map_every P f each [] = tt
all_map_every P f each (x ∷ xs) = (each x, all_map_every P f each xs)
