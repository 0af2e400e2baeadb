-- Text that is written cell by cell. Assumes nothing.
use Rattle.std.proofs.Common.{◌≡◌, ◌++◌, ℕ, zero, suc, ◌+◌, List, flat_map, sym, ap, ◌∙◌, arith}
use Rattle.std.proofs.lemmas.List.{append-nil, append_assoc}
use Rattle.std.specs.List.{range_with_len}

from : (f : ℕ → List ℕ) (a n : ℕ) → flat_map f (range_with_len a (suc n)) ≡ flat_map f (range_with_len a n) ++ f (a + n)
from f a zero = let same : a ≡ a + 0 = omega arith in append-nil (f a) ∙ ap f same
from f a (suc n) =
    let same : a + 1 + n ≡ a + suc n = omega arith in
    let rest = flat_map f (range_with_len (a + 1) n) in
    ap (λ xs. f a ++ xs) (from f (a + 1) n ∙ ap (λ k. rest ++ f k) same) ∙ sym (append_assoc (f a) rest (f (a + suc n)))

-- the cells of numbers below n, and that of n
one_more : (f : ℕ → List ℕ) (n : ℕ) → flat_map f (range_with_len 0 (n + 1)) ≡ flat_map f (range_with_len 0 n) ++ f n
one_more f n =
    let next : n + 1 ≡ suc n = omega arith in
    let same : 0 + n ≡ n = omega arith in
    ap (λ k. flat_map f (range_with_len 0 k)) next ∙ (from f 0 n ∙ ap (λ k. flat_map f (range_with_len 0 n) ++ f k) same)

-- a cell written behind the cells before it
pub cell_written : (f : ℕ → List ℕ) (n : ℕ) (before out new : List ℕ) → out ≡ before ++ flat_map f (range_with_len 0 n) → new ≡ out ++ f n → new ≡ before ++ flat_map f (range_with_len 0 (n + 1))
cell_written f n before out new so_far writes =
    writes ∙ (ap (λ xs. xs ++ f n) so_far ∙ (append_assoc before (flat_map f (range_with_len 0 n)) (f n) ∙ ap (λ xs. before ++ xs) (sym (one_more f n))))

-- two texts written behind what was there
pub behind : (before xs ys : List ℕ) {between after : List ℕ} → between ≡ before ++ xs → after ≡ between ++ ys → after ≡ before ++ (xs ++ ys)
behind before xs ys first second = second ∙ (ap (λ zs. zs ++ ys) first ∙ append_assoc before xs ys)

pub five_behind : (before a b c d last v w x y z : List ℕ) → a ≡ before ++ v → b ≡ a ++ w → c ≡ b ++ x → d ≡ c ++ y → last ≡ d ++ z → last ≡ before ++ (v ++ (w ++ (x ++ (y ++ z))))
five_behind before a b c d last v w x y z first second third fourth fifth =
    behind before v (w ++ (x ++ (y ++ z))) first (behind a w (x ++ (y ++ z)) second (behind b x (y ++ z) third (behind c y z fourth fifth)))
