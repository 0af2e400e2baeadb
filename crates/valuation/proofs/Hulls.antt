-- The join of the span, one move after another. Assumes nothing.
use Rattle.std.proofs.Common.{◌≡◌, ℕ, ◌<◌, ◌≤◌, ◌⊎◌, inl, inr, true, false, cond, nat_lt, Option, Some, None, IfSome, List, [], ◌∷◌, map, pos, refl, ap, ◌∙◌, arith}
use borrow.Author.Differences.{ints}
use Rattle.std.proofs.lemmas.Bool.Decides.{nat_tests}
use Rattle.std.proofs.lemmas.Int.{clamps}
use Rattle.std.specs.Int.{int_min, int_max}
use Rattle.std.specs.List.{fold}
use Rattle.std.specs.Option.{unwrap_or}
use Rattle.valuation.specs.declared.span.ends.Ends.{Ends}
use Rattle.valuation.specs.SpanOperations.{possible, hull, widest, EndsWithin}

-- the hull of what has come so far, if anything has, and of more
abbrev pub hull_with : Option Ends → List Ends → Ends
hull_with None xs = hull xs
hull_with (Some e) xs = record { least = fold int_min e.least (map (λ x. x.least) xs); greatest = fold int_max e.greatest (map (λ x. x.greatest) xs) }

-- a move more, with a share and with none
hull_wider : (so_far : Option Ends) (x : Ends) (xs : List Ends) → hull_with (Some (widest so_far x)) xs ≡ hull_with so_far (x ∷ xs)
hull_wider None x xs = refl
hull_wider (Some e) x xs = refl

pub hull_counted : (so_far : Option Ends) (p : ℕ) (x : Ends) (ps : List ℕ) (xs : List Ends) → 0 < p → hull_with (Some (widest so_far x)) (possible ps xs) ≡ hull_with so_far (possible (p ∷ ps) (x ∷ xs))
hull_counted so_far p x ps xs some =
    let counts : true ≡ nat_lt 0 p = grind (arith, nat_tests, some) in
    hull_wider so_far x (possible ps xs) ∙ ap (λ b. hull_with so_far (cond b (x ∷ possible ps xs) (possible ps xs))) counts

pub hull_skipped : (so_far : Option Ends) (p : ℕ) (x : Ends) (ps : List ℕ) (xs : List Ends) → p ≤ 0 → hull_with so_far (possible ps xs) ≡ hull_with so_far (possible (p ∷ ps) (x ∷ xs))
hull_skipped so_far p x ps xs none =
    let skips : false ≡ nat_lt 0 p = grind (arith, nat_tests, none) in
    ap (λ b. hull_with so_far (cond b (x ∷ possible ps xs) (possible ps xs))) skips

pub widest_within : (d : ℕ) (so_far : Option Ends) (x : Ends) → IfSome so_far (EndsWithin d) → EndsWithin d x → EndsWithin d (widest so_far x)
widest_within d None x before here = here
widest_within d (Some e) x before here = record {
  least = record { low = omega (arith, ints, clamps, before.least.low, here.least.low); high = omega (arith, ints, clamps, before.least.high, here.least.high) };
  greatest = record { low = omega (arith, ints, clamps, before.greatest.low, here.greatest.low); high = omega (arith, ints, clamps, before.greatest.high, here.greatest.high) };
}

-- no share or no figure more
pub possible_ended : (row : List ℕ) (xs : List Ends) → (row ≡ []) ⊎ (xs ≡ []) → possible row xs ≡ []
possible_ended [] xs e = refl
possible_ended (p ∷ ps) [] e = refl
possible_ended (p ∷ ps) (x ∷ xs) (inl e) = cc
possible_ended (p ∷ ps) (x ∷ xs) (inr e) = cc

pub hull_ended : (so_far : Option Ends) → unwrap_or so_far (record { least = pos 0; greatest = pos 0 }) ≡ hull_with so_far []
hull_ended None = refl
hull_ended (Some e) = refl
