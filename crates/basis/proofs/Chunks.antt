-- The rows of a column of shares are its chunks. Assumes nothing.
use Rattle.std.specs.Prelude.{Option, Some, None, IsTrue, option_map, IsSomeAnd, IfSome, MatchOption}
use Rattle.std.proofs.Common.{◌≡◌, ℕ, ◌+◌, ◌*◌, ◌/◌, ◌<◌, ◌≤◌, Bool, true, false, List, [], ◌∷◌, length, slice_index_or, ℤ, Bor, subst, arith, rules}
use Rattle.std.specs.Iterator.Runs.{Run, AllItemsBelow, AllItemsGive, IsFirstToGive, CallKeepsClosure, ItemsMapToExactChunks}
use denote.Param.Members.{Mut, Called}
use Rattle.std.proofs.Math.Nat.{le-div_iff_mul-le}
use Rattle.basis.specs.TransitionColumns.{row, LawfulRow, LawfulBelow}

-- of the item at a place two things are known, from which R follows
both : {A : Type 0} (o : Option A) (P Q : A → Type 0) (R : Type 0) → IsSomeAnd o P → IfSome o Q → ((x : A) → P x → Q x → R) → R
both None P Q R p q h = absurd p
both (Some x) P Q R p q h = h x p q

-- there is an item at each place of a run, and what holds of the item there is, holds
filled : {A : Type 0} (o : Option A) (xs : List A) (P : A → Type 0) (k : ℕ) → k < length xs → ((d : A) → option_map (λ y. y) o ≡ Some (slice_index_or xs k d)) → IfSome o P → IsSomeAnd o P
filled (Some x) xs P k inside reads p = p
filled None [] P k inside reads p = absurd (omega (arith, inside))
filled None (x ∷ xs) P k inside reads p = let none = reads x in absurd (search rules)

module _ {S : Type 0} {steps : S → Option (Bor (List ℤ)) → S → Type 0} (u : Run steps) (m : ℕ) (shares : List ℤ) (chunks : ItemsMapToExactChunks u (λ x. x.now) m shares) where
  -- what follows of the chunk at a place holds of the row of that number
  at_row : (P : Bor (List ℤ) → Type 0) (T : List ℤ → Type 0) → ((x : Bor (List ℤ)) → P x → T x.now) → (k : ℕ) → IsSomeAnd (u.at k) P → T (row m shares k)
  at_row P T tells k here = both (u.at k) P _ (T (row m shares k)) here (chunks.2 k) (λ x p is. subst T is.2.0 (tells x p))

  -- the number of the first chunk to which a test f, that fails at lawful rows alone, answers true
  module _ {F : Type 0} (g : Mut F (Bor (List ℤ) × Unit {0}) Bool) (f : F) (keeps : CallKeepsClosure g f) (lawful : (x : Bor (List ℤ)) → Called g f (x, tt) false f → LawfulRow x.now) (unlawful : (x : Bor (List ℤ)) → Called g f (x, tt) true f → LawfulRow x.now → ⊥) where
    below : (n : ℕ) → AllItemsBelow u n (λ x. Called g f (x, tt) false f) → LawfulBelow m shares n
    below n all r inside = at_row _ LawfulRow lawful r (all r inside)

    pub first_row : (o : Option ℕ) → 0 < m → MatchOption o (IsTrue u.whole × AllItemsGive u g f false) (λ i. (u.len ≡ i + 1) × IsFirstToGive u g f true false i) → MatchOption o (LawfulBelow m shares (length shares / m)) (λ found. (found < length shares / m) × (LawfulRow (row m shares found) → ⊥) × LawfulBelow m shares found)
    first_row None some none = subst (LawfulBelow m shares) (chunks.1 none.0) (below u.len (λ k inside. filled (u.at k) u.items _ k (omega (arith, inside, u.long)) (λ d. u.reads k d inside) (none.1 keeps k)))
    first_row (Some i) some found =
        let inside : (i + 1) * m ≤ length shares = subst (λ n. n * m ≤ length shares) found.0 chunks.0 in
        let early : i + 1 ≤ length shares / m = (le-div_iff_mul-le {k = m} {x = i + 1} {y = length shares} some).1 inside in
        let first = found.1 keeps in
        (omega (arith, early), at_row _ (λ xs. LawfulRow xs → ⊥) unlawful i first.0, below i first.1)
