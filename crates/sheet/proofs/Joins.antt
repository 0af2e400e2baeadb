-- Lists joined over a count, and places in the column of shares with their padding. Assumes nothing.
use Rattle.std.proofs.Common.{◌≡◌, ℕ, zero, suc, ◌+◌, ◌-◌, ◌*◌, ◌<◌, ◌≤◌, inl, inr, List, [], ◌∷◌, ◌++◌, length, get_or, replicate, Bool, true, flat_map, refl, sym, ap, ◌∙◌, append_assoc, append-nil, length-append, mul-le-mul_right, arith}
use Rattle.std.specs.List.{range_with_len, list_all}
use Rattle.std.proofs.Math.Arith.{digits_lt}
use Rattle.std.proofs.lemmas.Bool.{cases_lt}
use Rattle.std.proofs.lemmas.Bool.Decides.{nat_tests}
use Rattle.std.proofs.lemmas.List.{get_or-replicate, get_or_past, get_or_append_left, get_or-append_right, get_or_push, length-replicate}
use Rattle.basis.specs.TransitionColumns.{place}
use Rattle.sheet.specs.Checks.{padded}

-- ---- joins

pub join_same : {A : Type 0} (f g : ℕ → List A) (a n : ℕ) → ((k : ℕ) → k < a + n → f k ≡ g k) → flat_map f (range_with_len a n) ≡ flat_map g (range_with_len a n)
join_same f g a zero h = refl
join_same f g a (suc n) h = rw (h a (omega arith), join_same f g (a + 1) n (λ k u. h k (omega arith)))

pub join_none : {A : Type 0} (f : ℕ → List A) (a n : ℕ) → ((k : ℕ) → a ≤ k → k < a + n → f k ≡ []) → flat_map f (range_with_len a n) ≡ []
join_none f a zero h = refl
join_none f a (suc n) h = rw (h a (omega arith) (omega arith)) (join_none f (a + 1) n (λ k l u. h k (omega arith) (omega arith)))

pub join_more : {A : Type 0} (f : ℕ → List A) (a n : ℕ) → flat_map f (range_with_len a (suc n)) ≡ flat_map f (range_with_len a n) ++ f (a + n)
join_more f a zero = rw (append-nil (f a)) (ap f (omega arith))
join_more f a (suc n) = rw (join_more f (a + 1) n) (sym (append_assoc (f a) _ _) ∙ ap (λ k. (f a ++ flat_map f (range_with_len (a + 1) n)) ++ f k) (omega arith))

-- g has x more than f at q, the same before q, and neither has anything after q
pub join_last : {A : Type 0} (f g : ℕ → List A) (x : List A) (q a n : ℕ) → a ≤ q → q < a + n → ((k : ℕ) → k < q → f k ≡ g k) → g q ≡ f q ++ x → ((k : ℕ) → q < k → k < a + n → f k ≡ []) → ((k : ℕ) → q < k → k < a + n → g k ≡ []) → flat_map g (range_with_len a n) ≡ flat_map f (range_with_len a n) ++ x
join_last f g x q a zero low high same here fn gn = absurd (omega arith)
join_last f g x q a (suc n) low high same here fn gn =
    elim (cases_lt a q) [
      | inl l ↦
          rw (same a l, join_last f g x q (a + 1) n (omega arith) (omega arith) same here (λ k u v. fn k u (omega arith)) (λ k u v. gn k u (omega arith))) (sym (append_assoc (g a) _ x))
      | inr l ↦
          let e : q ≡ a = omega arith in
          let at_a : g a ≡ f a ++ x = rw e at here in
          let nf : flat_map f (range_with_len (a + 1) n) ≡ [] = join_none f (a + 1) n (λ k l u. fn k (omega arith) (omega arith)) in
          let ng : flat_map g (range_with_len (a + 1) n) ≡ [] = join_none g (a + 1) n (λ k l u. gn k (omega arith) (omega arith)) in
          rw (nf, ng, at_a, append-nil (f a)) (append-nil (f a ++ x))
    ]

-- ---- tests over a count

pub all_from : (p : ℕ → Bool) (a n : ℕ) → list_all p (range_with_len a n) ≡ true → (k : ℕ) → a ≤ k → k < a + n → p k ≡ true
all_from p a zero h k l u = absurd (omega arith)
all_from p a (suc n) h k l u =
    let here : p a ≡ true = grind (arith, nat_tests) in
    let rest : list_all p (range_with_len (a + 1) n) ≡ true = grind (arith, nat_tests) in
    elim (cases_lt a k) [ inl g ↦ all_from p (a + 1) n rest k (omega arith) (omega arith) | inr g ↦ let e : a ≡ k = omega arith in rw e at here ]

pub all_to : (p : ℕ → Bool) (a n : ℕ) → ((k : ℕ) → a ≤ k → k < a + n → p k ≡ true) → list_all p (range_with_len a n) ≡ true
all_to p a zero h = refl
all_to p a (suc n) h = rw (h a (omega arith) (omega arith)) (all_to p (a + 1) n (λ k l u. h k (omega arith) (omega arith)))

-- ---- places

pub row_lt : (m q r a b : ℕ) → q < r → a < m → q * m + a < r * m + b
row_lt m q r a b below inside = let h : q * m + a < r * m = digits_lt below inside in omega arith

pub place_in_year : (m i j t years : ℕ) → t < years → i < m → j < m → place m i j t < years * m * m
place_in_year m i j t years h l u = digits_lt (digits_lt h l) u

pub place_past_year : (m i j t years : ℕ) → years ≤ t → years * m * m ≤ place m i j t
place_past_year m i j t years h =
    let a : years * m ≤ t * m = mul-le-mul_right m h in
    let b : years * m * m ≤ (t * m + i) * m = mul-le-mul_right m (omega arith) in
    omega arith

-- the places of earlier moves are lower
pub place_lt_year : (m i j t a b u : ℕ) → t < u → i < m → j < m → place m i j t < place m a b u
place_lt_year m i j t a b u h l k = row_lt m (t * m + i) (u * m + a) j b (row_lt m t u i a h l) k

pub place_lt_state : (m i j t a b : ℕ) → i < a → j < m → place m i j t < place m a b t
place_lt_state m i j t a b h k = row_lt m (t * m + i) (t * m + a) j b (omega arith) k

-- ---- padding

pub length_padded : (xs : List ℕ) (q : ℕ) → length xs ≤ q → length (padded xs q) ≡ q
length_padded xs q h = length-append xs _ ∙ omega (arith, length-replicate {A = ℕ} (q - length xs) 0)

pub noughts : (n i : ℕ) → ◌≡◌ {A = ℕ} (get_or (replicate n 0) i 0) 0
noughts n i = elim (cases_lt i n) [ inl l ↦ get_or-replicate n i 0 0 l | inr l ↦ get_or_past (replicate n 0) i 0 (omega (arith, length-replicate {A = ℕ} n 0)) ]

-- padding changes no entry
pub get_or_padded : (xs : List ℕ) (q k : ℕ) → get_or (padded xs q) k 0 ≡ get_or xs k 0
get_or_padded xs q k =
    elim (cases_lt k (length xs)) [
      | inl l ↦ get_or_append_left xs _ 0 k l
      | inr l ↦ get_or-append_right xs _ (length xs) k 0 refl l ∙ (noughts (q - length xs) (k - length xs) ∙ sym (get_or_past xs k 0 l))
    ]

-- one share more, at q
pub more_below : (xs : List ℕ) (q p k : ℕ) → length xs ≤ q → k < q → get_or (padded xs q ++ p ∷ []) k 0 ≡ get_or xs k 0
more_below xs q p k h l = get_or_append_left (padded xs q) _ 0 k (omega (arith, length_padded xs q h)) ∙ get_or_padded xs q k

pub more_at : (xs : List ℕ) (q p : ℕ) → length xs ≤ q → get_or (padded xs q ++ p ∷ []) q 0 ≡ p
more_at xs q p h = get_or_push (padded xs q) p 0 q (length_padded xs q h)

pub length_more : (xs : List ℕ) (q p : ℕ) → length xs ≤ q → length (padded xs q ++ p ∷ []) ≡ q + 1
length_more xs q p h = length-append (padded xs q) _ ∙ omega (arith, length_padded xs q h)

pub more_past : (xs : List ℕ) (q p k : ℕ) → length xs ≤ q → q < k → get_or (padded xs q ++ p ∷ []) k 0 ≡ 0
more_past xs q p k h l = get_or_past _ k 0 (omega (arith, length_more xs q p h))
