-- Columns that are written place after place. Assumes nothing.
use Rattle.std.proofs.Common.{◌≢◌, ℕ, ◌+◌, ◌<◌, List, length, ℤ, pos, get_or, set, arith, sym, subst, get_or-set_other, get_or-set_same, below_more}

-- what holds of all places below k holds of the next too, where an entry is written of which it holds
pub one_more : (P : ℕ → ℤ → Type 0) (column : List ℤ) (k : ℕ) (z : ℤ) → k < length column → ((p : ℕ) → p < k → P p (get_or column p (pos 0))) → P k z → (p : ℕ) → p < k + 1 → P p (get_or (set column k z) p (pos 0))
one_more P column k z inside below here =
    below_more (λ p. P p (get_or (set column k z) p (pos 0))) k
    (λ p h. let other : p ≢ k = omega arith in subst (P p) (sym (get_or-set_other column k p z (pos 0) other)) (below p h))
    (subst (P k) (sym (get_or-set_same column k z (pos 0) inside)) here)
