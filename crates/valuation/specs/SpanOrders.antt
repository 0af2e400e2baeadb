-- The span keeps order, and its ends tell a figure. Assumes nothing.
use Rattle.std.specs.Prelude.{◌≡◌, ℕ, Bool, true, false, cond, nat_lt, List, [], ◌∷◌, map, ℤ, ◌≤ℤ◌}
use Rattle.std.proofs.Common.{refl, arith}
use Rattle.std.specs.Int.{int_min, int_max}
use Rattle.std.specs.List.{AllZip, fold}
use Rattle.std.proofs.lemmas.Int.{ints, clamps}
use Rattle.valuation.specs.declared.span.ends.Ends.{Ends}
use Rattle.valuation.specs.Extremes.{smallest, largest}
use Rattle.valuation.specs.Means.{mean}
use Rattle.valuation.specs.Operations.{AreEnds, EndByEnd, Ordered}
use Rattle.valuation.specs.Orders.{mean_ordered}
use Rattle.valuation.specs.SpanOperations.{possible, hull, span, span_ends}

fold_keeps : (f : ℤ → ℤ → ℤ) → ((a b x y : ℤ) → a ≤ℤ b → x ≤ℤ y → f a x ≤ℤ f b y) → (a b : ℤ) (xs ys : List ℤ) → a ≤ℤ b → AllZip ◌≤ℤ◌ xs ys → fold f a xs ≤ℤ fold f b ys
fold_keeps f each a b [] [] h k = h
fold_keeps f each a b [] (y ∷ ys) h k = absurd k
fold_keeps f each a b (x ∷ xs) [] h k = absurd k
fold_keeps f each a b (x ∷ xs) (y ∷ ys) h k = fold_keeps f each (f a x) (f b y) xs ys (each a b x y h k.0) k.1

min_keeps : (a b x y : ℤ) → a ≤ℤ b → x ≤ℤ y → int_min a x ≤ℤ int_min b y
min_keeps a b x y h k = omega (arith, ints, clamps, h, k)

max_keeps : (a b x y : ℤ) → a ≤ℤ b → x ≤ℤ y → int_max a x ≤ℤ int_max b y
max_keeps a b x y h k = omega (arith, ints, clamps, h, k)

smallest_keeps : (xs ys : List ℤ) → AllZip ◌≤ℤ◌ xs ys → smallest xs ≤ℤ smallest ys
smallest_keeps [] [] k = omega (arith, ints)
smallest_keeps [] (y ∷ ys) k = absurd k
smallest_keeps (x ∷ xs) [] k = absurd k
smallest_keeps (x ∷ xs) (y ∷ ys) k = fold_keeps int_min min_keeps x y xs ys k.0 k.1

largest_keeps : (xs ys : List ℤ) → AllZip ◌≤ℤ◌ xs ys → largest xs ≤ℤ largest ys
largest_keeps [] [] k = omega (arith, ints)
largest_keeps [] (y ∷ ys) k = absurd k
largest_keeps (x ∷ xs) [] k = absurd k
largest_keeps (x ∷ xs) (y ∷ ys) k = fold_keeps int_max max_keeps x y xs ys k.0 k.1

-- at each end
zip_map_keeps : {X Y : Type 0} (below : X → X → Type 0) (order : Y → Y → Type 0) (f : X → Y) → ((x y : X) → below x y → order (f x) (f y)) → (xs ys : List X) → AllZip below xs ys → AllZip order (map f xs) (map f ys)
zip_map_keeps below order f each [] [] k = k
zip_map_keeps below order f each [] (y ∷ ys) k = absurd k
zip_map_keeps below order f each (x ∷ xs) [] k = absurd k
zip_map_keeps below order f each (x ∷ xs) (y ∷ ys) k = (each x y k.0, zip_map_keeps below order f each xs ys k.1)

pub hull_keeps : (xs ys : List Ends) → AllZip (EndByEnd span_ends) xs ys →
    EndByEnd span_ends (hull xs) (hull ys)
hull_keeps xs ys k =
    let below = EndByEnd span_ends in
    let least = zip_map_keeps below ◌≤ℤ◌ (λ x. x.least) (λ x y h. h.0) xs ys k in
    let greatest = zip_map_keeps below ◌≤ℤ◌ (λ x. x.greatest) (λ x y h. h.1.0) xs ys k in
    (smallest_keeps _ _ least, (largest_keeps _ _ greatest, tt))

-- a move counts or does not, whatever figure follows it
counted_keeps : {F : Type 0} (order : F → F → Type 0) (b : Bool) (x y : F) (xs ys : List F) → order x y → AllZip order xs ys → AllZip order (cond b (x ∷ xs) xs) (cond b (y ∷ ys) ys)
counted_keeps order true x y xs ys h k = (h, k)
counted_keeps order false x y xs ys h k = k

pub possible_keeps : {F : Type 0} (order : F → F → Type 0) (row : List ℕ) (xs ys : List F) → AllZip order xs ys → AllZip order (possible row xs) (possible row ys)
possible_keeps order [] xs ys k = tt
possible_keeps order (p ∷ ps) [] [] k = tt
possible_keeps order (p ∷ ps) [] (y ∷ ys) k = absurd k
possible_keeps order (p ∷ ps) (x ∷ xs) [] k = absurd k
possible_keeps order (p ∷ ps) (x ∷ xs) (y ∷ ys) k = counted_keeps order (nat_lt 0 p) x y (possible ps xs) (possible ps ys) k.0 (possible_keeps order ps xs ys k.1)

pub span_told_by_ends : AreEnds span_ends
span_told_by_ends = record {
  as_many = λ x y. refl;
  tell = λ x y same.
      let low : x.least ≡ y.least = cc in
      let high : x.greatest ≡ y.greatest = cc in
      λ u. record { least = low u; greatest = high u };
}

-- a step that the mean takes at each end
abbrev at_both_ends : (ℤ → ℤ) → Ends → Ends
at_both_ends f x = record { least = f x.least; greatest = f x.greatest }

each_end_keeps : (f g : ℤ → ℤ) → ((a b : ℤ) → a ≤ℤ b → f a ≤ℤ g b) → (x y : Ends) →
    EndByEnd span_ends x y → EndByEnd span_ends (at_both_ends f x) (at_both_ends g y)
each_end_keeps f g each x y h = (each x.least y.least h.0, (each x.greatest y.greatest h.1.0, tt))

pub span_ordered : Ordered span_ends span
span_ordered = record {
  make_keeps = λ a b h. (h, (h, tt));
  add_keeps = λ x y a b h k. each_end_keeps (λ z. mean.add z a) (λ z. mean.add z b)
      (λ v w l. (mean_ordered.add_keeps v w a b (l, tt) k).0) x y h;
  join_keeps = λ i row xs ys h. hull_keeps _ _ (possible_keeps (EndByEnd span_ends) row xs ys h);
  discount_keeps = λ factor x y h. each_end_keeps (mean.discount factor) (mean.discount factor)
      (λ v w l. (mean_ordered.discount_keeps factor v w (l, tt)).0) x y h;
}
