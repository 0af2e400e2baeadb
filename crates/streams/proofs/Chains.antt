-- Reads and writes one after another. Assumes nothing.
use Rattle.std.proofs.Common.{◌≡◌, ◌++◌, List, [], ℕ, ◌+◌, ◌-◌, ◌≤◌, length, take, drop, Option, None, Some, refl, sym, ap, ◌∙◌, arith}
use Rattle.std.proofs.Math.Seq.{take-add, take-append-add, take-append_seam}
use Rattle.std.proofs.lemmas.List.{append-nil, append_assoc, take-take, length-append, length-drop, length-take, length-take-le}
use Rattle.std.proofs.lemmas.Slice.{take-put_mid}
use borrow.Rule.Slice.PartMut.{put_mid, post_of}
use Rattle.std.specs.Io.KnownBytes.{Keeps, Appends, Consumes}

pub appends_nothing : (known : Option (List ℕ)) → Appends known known []
appends_nothing None = tt
appends_nothing (Some xs) = sym (append-nil xs)

pub consumes_nothing : (known : Option (List ℕ)) → Consumes known known []
consumes_nothing None = tt
consumes_nothing (Some xs) = refl

pub appends_then : (a b c : Option (List ℕ)) (xs ys : List ℕ) → Appends a b xs → Appends b c ys → Appends a c (xs ++ ys)
appends_then None b c xs ys p q = tt
appends_then (Some ws) None c xs ys p q = absurd p
appends_then (Some ws) (Some bs) None xs ys p q = absurd q
appends_then (Some ws) (Some bs) (Some cs) xs ys p q = q ∙ (ap (λ zs. zs ++ ys) p ∙ append_assoc ws xs ys)

pub appends_and_keeps : (a b c : Option (List ℕ)) (xs : List ℕ) → Appends a b xs → Keeps b c → Appends a c xs
appends_and_keeps None b c xs p q = tt
appends_and_keeps (Some ws) None c xs p q = absurd p
appends_and_keeps (Some ws) (Some bs) None xs p q = absurd q
appends_and_keeps (Some ws) (Some bs) (Some cs) xs p q = q ∙ p

pub consumes_then : (a b c : Option (List ℕ)) (xs ys : List ℕ) → Consumes a b xs → Consumes b c ys → Consumes a c (xs ++ ys)
consumes_then None b c xs ys p q = tt
consumes_then (Some ws) None c xs ys p q = absurd p
consumes_then (Some ws) (Some bs) None xs ys p q = absurd q
consumes_then (Some ws) (Some bs) (Some cs) xs ys p q = p ∙ (ap (λ zs. xs ++ zs) q ∙ sym (append_assoc xs ys cs))

pub consumes_and_keeps : (a b c : Option (List ℕ)) (xs : List ℕ) → Consumes a b xs → Keeps b c → Consumes a c xs
consumes_and_keeps None b c xs p q = tt
consumes_and_keeps (Some ws) None c xs p q = absurd p
consumes_and_keeps (Some ws) (Some bs) None xs p q = absurd q
consumes_and_keeps (Some ws) (Some bs) (Some cs) xs p q = p ∙ ap (λ zs. xs ++ zs) (sym q)

-- the front of what a buffer holds, after a read into what was left of it
pub read_on : (a k : ℕ) (xs ys : List ℕ) (n : ℕ) → a ≤ length xs → n ≤ length ys → take (a + n) (put_mid a k xs ys) ≡ take a xs ++ take n ys
read_on a k xs ys n inside few =
    sym (take-take (a + n) (a + length ys) (put_mid a k xs ys) (omega (arith, few)))
    ∙ (ap (take (a + n)) (take-put_mid a k xs ys (a + length ys) refl inside)
    ∙ (ap (λ m. take (m + n) (take a xs ++ ys)) (sym (length-take-le a xs inside)) ∙ take-append-add (take a xs) ys n))

-- a buffer has the same length after such a read
pub length_read : (a : ℕ) (xs ys : List ℕ) → a ≤ length xs → length ys ≡ length xs - a → length (put_mid a (length xs - a) xs ys) ≡ length xs
length_read a xs ys inside whole =
    let k = length xs - a in
    let rest = post_of a k xs in
    let first = length-append (take a xs) (ys ++ rest) in
    let second = length-append ys rest in
    let third = length-drop k (drop a xs) in
    let fourth = length-drop a xs in
    omega (arith, inside, whole, first, second, third, fourth, length-take-le a xs inside)

-- the front of what was to be written, after a write of what was left of it
pub written_on : (a n : ℕ) (xs : List ℕ) → a ≤ length xs → n ≤ length (take (length xs - a) (drop a xs)) → (a + n ≤ length xs) × (take a xs ++ take n (take (length xs - a) (drop a xs)) ≡ take (a + n) xs)
written_on a n xs inside few =
    let short : n ≤ length xs - a = omega (arith, few, length-take (length xs - a) (drop a xs)) in
    (omega (arith, short, inside), ap (λ ys. take a xs ++ ys) (take-take n (length xs - a) (drop a xs) short) ∙ sym (take-add a n xs))

-- what is kept of a vector whose buffer was read into
pub front_kept : (count len : ℕ) (buffer rest kept : List ℕ) → len ≡ length buffer → kept ≡ take count (take len (buffer ++ rest)) → kept ≡ take count buffer
front_kept count len buffer rest kept whole is =
    is ∙ ap (take count) (ap (λ n. take n (buffer ++ rest)) whole ∙ take-append_seam buffer rest)
