-- Columns that are filled from the front. Assumes nothing.
use Rattle.std.proofs.Common.{◌≡◌, ℕ, ◌+◌, ◌<◌, ◌≤◌, List, [], ◌∷◌, ◌++◌, length, map, get_or, take, drop, set, ℤ, pos, append_assoc, sym, ap, ◌∙◌, arith}
use Rattle.std.proofs.Math.Seq.{set-append_seam}
use Rattle.std.proofs.lemmas.List.{take_more, drop_more, length-map, length-take-le, map-append}

-- one more number at its place
pub fill_more : (numbers : List ℕ) (column : List ℤ) (i : ℕ) → i < length numbers → length numbers ≤ length column → set (map pos (take i numbers) ++ drop i column) i (pos (get_or numbers i 0)) ≡ map pos (take (i + 1) numbers) ++ drop (i + 1) column
fill_more numbers column i inside room =
    let front = map pos (take i numbers) in
    let long : length (map pos (take i numbers)) ≡ i = length-map (take i numbers) pos ∙ length-take-le i numbers (omega arith) in
    let more : map pos (take (i + 1) numbers) ≡ map pos (take i numbers) ++ pos (get_or numbers i 0) ∷ [] = ap (map pos) (take_more numbers i 0 inside) ∙ map-append pos (take i numbers) (get_or numbers i 0 ∷ []) in
    ap (λ ys. set (map pos (take i numbers) ++ ys) i (pos (get_or numbers i 0))) (drop_more column i (pos 0) (omega arith))
    ∙ ap (λ k. set (map pos (take i numbers) ++ get_or column i (pos 0) ∷ drop (i + 1) column) k (pos (get_or numbers i 0))) (sym long)
    ∙ set-append_seam (map pos (take i numbers)) (get_or column i (pos 0)) (drop (i + 1) column) (pos (get_or numbers i 0))
    ∙ sym (append_assoc (map pos (take i numbers)) (pos (get_or numbers i 0) ∷ []) (drop (i + 1) column))
    ∙ ap (λ xs. xs ++ drop (i + 1) column) (sym more)
