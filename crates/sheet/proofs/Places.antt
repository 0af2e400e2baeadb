-- Where the first element stands that passes a test. Assumes nothing.
use Rattle.std.proofs.Common.{◌≡◌, ℕ, zero, suc, ◌+◌, ◌-◌, ◌==◌, ◌<◌, ◌≤◌, ◌++◌, nat_lt, Bool, true, false, not, List, [], ◌∷◌, All, length, take, drop, Option, Some, None, is_none, ap, ◌∙◌, refl, arith, le_of_suc-le-suc, not-suc-le-zero}
use Rattle.std.proofs.lemmas.Bool.Decides.{nat_tests}
use Rattle.std.proofs.lemmas.List.{take_all, length-drop, length-append, take-append-drop}
use Rattle.std.proofs.lemmas.List.Folds.{prefix_len-append}
use Rattle.std.proofs.lemmas.List.Splits.{slice_split_first, slice_split_none, length-slice_split}
use Rattle.sheet.specs.Fields.{parts_left}
use Rattle.sheet.specs.declared.part.Part.{Part}
use Rattle.std.specs.List.{list_any, position, position_or_len, slice_split}

-- the place that is found, and what stands before it and after it
pub found : {X : Type 0} (p : X → Bool) (xs : List X) (i : ℕ) → Some i ≡ position p xs → (i ≡ position_or_len p xs) × (i < length xs)
found p xs i h = grind (arith, nat_tests)

pub all_fail : {X : Type 0} (p : X → Bool) (xs : List X) → length xs ≤ position_or_len p xs → All (λ x. p x ≡ false) xs
all_fail p [] h k d inside = absurd (not-suc-le-zero inside)
all_fail p (x ∷ xs) h zero d inside = grind (arith, nat_tests)
all_fail p (x ∷ xs) h (suc k) d inside = all_fail p xs (grind (arith, nat_tests)) k d (le_of_suc-le-suc inside)

pub missing : {X : Type 0} (p : X → Bool) (xs : List X) → None ≡ position p xs → All (λ x. p x ≡ false) xs
missing p xs h = all_fail p xs (grind (arith, nat_tests))

-- the parts of a list, the first up to the place that is found
pub split_found : {X : Type 0} (p : X → Bool) (xs : List X) (i : ℕ) (d : X) → Some i ≡ position p xs → slice_split p xs ≡ take i xs ∷ slice_split p (take (length xs - (i + 1)) (drop (i + 1) xs))
split_found p xs i d h =
    let at = found p xs i h in
    let rest : take (length xs - (i + 1)) (drop (i + 1) xs) ≡ drop (i + 1) xs = take_all (length xs - (i + 1)) (drop (i + 1) xs) (omega (arith, length-drop (i + 1) xs)) in
    let first = slice_split_first p xs d (omega (arith, at.0, at.1)) in
    rw (rest, at.0) first

pub split_missing : {X : Type 0} (p : X → Bool) (xs : List X) → None ≡ position p xs → slice_split p xs ≡ xs ∷ []
split_missing p xs h = slice_split_none p xs (missing p xs h)

pub some_parts : (c : ℕ) (bytes : List ℕ) → 1 ≤ length (slice_split (λ x. x == c) bytes)
some_parts c bytes = omega (arith, length-slice_split (λ x. x == c) bytes)

pub none_left : (rest : Option Part) → length (parts_left rest) ≡ 0 → is_none rest ≡ true
none_left None empty = refl
none_left (Some rest) empty = let some = some_parts 59 rest.bytes.now in grind arith

-- an element passes exactly if the first such place lies within the list
pub any_is : {X : Type 0} (p : X → Bool) (xs : List X) → list_any p xs ≡ nat_lt (position_or_len p xs) (length xs)
any_is p [] = grind (arith, nat_tests)
any_is p (x ∷ xs) = let more = any_is p xs in grind (arith, nat_tests)

-- what is found among the first n elements is the first of all
pub found_early : {X : Type 0} (p : X → Bool) (xs : List X) (n i : ℕ) → Some i ≡ position p (take n xs) → Some i ≡ position p xs
found_early p xs n i h =
    let at = found p (take n xs) i h in
    let front = prefix_len-append (λ x. not (p x)) (take n xs) (drop n xs) in
    let long = length-append (take n xs) (drop n xs) in
    let joined : Some i ≡ position p (take n xs ++ drop n xs) = grind (arith, nat_tests) in
    joined ∙ ap (position p) (take-append-drop n xs)
