-- The line feed that is found among the first bytes of a line. Assumes nothing.
use Rattle.std.proofs.Common.{◌≡◌, ℕ, ◌+◌, ◌-◌, ◌<◌, min, true, false, List, length, take, drop, Some, None, sym, ap, ◌∙◌, arith}
use Rattle.std.proofs.Math.Nat.{min_comm}
use Rattle.std.proofs.lemmas.Bool.Decides.{nat_tests}
use Rattle.std.proofs.lemmas.List.{take_all, length-drop, length-take-le, take_min}
use Rattle.std.specs.List.{position, position_or_len}
use Rattle.sheet.specs.Checks.{ends_in_time}
use Rattle.sheet.specs.Lines.{is_line_feed, first_line, after_line}
use Rattle.sheet.proofs.Places.{found, found_early, any_is}

-- the bytes that code looks at
early : (w : ℕ) (bytes : List ℕ) → w ≡ min (length bytes) 40 → take w bytes ≡ take 40 bytes
early w bytes e = ap (λ k. take k bytes) (e ∙ min_comm (length bytes) 40) ∙ take_min 40 bytes

pub none_early : (w : ℕ) (bytes : List ℕ) → w ≡ min (length bytes) 40 → None ≡ position is_line_feed (take w bytes) → ends_in_time bytes ≡ false
none_early w bytes e h =
    let none : None ≡ position is_line_feed (take 40 bytes) = h ∙ ap (position is_line_feed) (early w bytes e) in
    let any = any_is is_line_feed (take 40 bytes) in
    grind (arith, nat_tests)

pub feed_early : (w i : ℕ) (bytes : List ℕ) → w ≡ min (length bytes) 40 → Some i ≡ position is_line_feed (take w bytes) → ends_in_time bytes ≡ true
feed_early w i bytes e h =
    let one : Some i ≡ position is_line_feed (take 40 bytes) = h ∙ ap (position is_line_feed) (early w bytes e) in
    let any = any_is is_line_feed (take 40 bytes) in
    grind (arith, nat_tests)

feed_at : (w i : ℕ) (bytes : List ℕ) → w ≡ min (length bytes) 40 → Some i ≡ position is_line_feed (take w bytes) → (i ≡ position_or_len is_line_feed bytes) × (i < length bytes)
feed_at w i bytes e h = found is_line_feed bytes i (found_early is_line_feed bytes 40 i (h ∙ ap (position is_line_feed) (early w bytes e)))

-- what stands before it and after it, and how long the line is
pub line_before : (w i : ℕ) (bytes : List ℕ) → w ≡ min (length bytes) 40 → Some i ≡ position is_line_feed (take w bytes) → take i bytes ≡ first_line bytes
line_before w i bytes e h = ap (λ k. take k bytes) (feed_at w i bytes e h).0

pub line_after : (w i : ℕ) (bytes : List ℕ) → w ≡ min (length bytes) 40 → Some i ≡ position is_line_feed (take w bytes) → take (length bytes - (i + 1)) (drop (i + 1) bytes) ≡ after_line bytes
line_after w i bytes e h = take_all (length bytes - (i + 1)) (drop (i + 1) bytes) (omega (arith, length-drop (i + 1) bytes)) ∙ ap (λ k. drop (k + 1) bytes) (feed_at w i bytes e h).0

pub line_length : (w i : ℕ) (bytes : List ℕ) → w ≡ min (length bytes) 40 → Some i ≡ position is_line_feed (take w bytes) → length (first_line bytes) ≡ i
line_length w i bytes e h =
    let at = feed_at w i bytes e h in
    ap length (sym (line_before w i bytes e h)) ∙ length-take-le i bytes (omega (arith, at.1))
