-- The mean keeps order, and a figure is its one end. Assumes nothing.
use Rattle.std.specs.Prelude.{ℕ, List, [], ◌∷◌, ℤ, pos, ◌+ℤ◌, ◌*ℤ◌, ◌≤ℤ◌}
use Rattle.std.proofs.Common.{refl, arith}
use Rattle.std.specs.List.{AllZip}
use Rattle.std.specs.Int.{saturate_to_bits}
use Rattle.std.proofs.lemmas.Int.{ints}
use Rattle.units.proofs.Whole.{times_le}
use Rattle.units.proofs.Nearest.{to_nearest}
use Rattle.valuation.specs.Means.{rounded_mean, rounded_discount, weighted, mean, mean_ends}
use Rattle.valuation.specs.Operations.{AreEnds, EndByEnd, Ordered}

pub rounded_mean_keeps : (a b : ℤ) → a ≤ℤ b → rounded_mean a ≤ℤ rounded_mean b
rounded_mean_keeps = to_nearest.keeps_order

pub rounded_discount_keeps : (a b : ℤ) → a ≤ℤ b → rounded_discount a ≤ℤ rounded_discount b
rounded_discount_keeps = to_nearest.keeps_order

pub saturated_keeps : (x y : ℤ) → x ≤ℤ y → saturate_to_bits 63 x ≤ℤ saturate_to_bits 63 y
saturated_keeps x y h = grind (arith, ints)

weighted_keeps : (row : List ℕ) (a b : ℤ) (xs ys : List ℤ) → a ≤ℤ b →
    AllZip (EndByEnd mean_ends) xs ys → weighted a row xs ≤ℤ weighted b row ys
weighted_keeps [] a b xs ys h k = h
weighted_keeps (p ∷ ps) a b [] [] h k = h
weighted_keeps (p ∷ ps) a b [] (y ∷ ys) h k = absurd k
weighted_keeps (p ∷ ps) a b (x ∷ xs) [] h k = absurd k
weighted_keeps (p ∷ ps) a b (x ∷ xs) (y ∷ ys) h k =
    let products = saturated_keeps _ _ (times_le p x y k.0.0) in
    weighted_keeps ps _ _ xs ys (saturated_keeps (a +ℤ saturate_to_bits 63 (pos p *ℤ x)) (b +ℤ saturate_to_bits 63 (pos p *ℤ y)) (omega (arith, ints, products))) k.1

pub mean_told_by_ends : AreEnds mean_ends
mean_told_by_ends = record { as_many = λ x y. refl; tell = λ x y same. cc }

pub mean_ordered : Ordered mean_ends mean
mean_ordered = record {
  make_keeps = λ a b h. (h, tt);
  add_keeps = λ x y a b h k. (saturated_keeps (x +ℤ a) (y +ℤ b) (omega (arith, ints, h.0, k)), tt);
  join_keeps = λ i row xs ys h.
      let sums = weighted_keeps row (pos 0) (pos 0) xs ys (omega (arith, ints)) h in
      (rounded_mean_keeps _ _ sums, tt);
  discount_keeps = λ factor x y h.
      (rounded_discount_keeps _ _ (saturated_keeps _ _ (times_le factor x y h.0)), tt);
}
