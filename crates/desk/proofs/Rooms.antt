-- Texts that are written behind one another. Assumes nothing.
use Rattle.std.proofs.Common.{◌++◌, ◌+◌, ◌*◌, ◌≤◌, List, ℕ, ap, ◌∙◌, arith}
use Rattle.std.proofs.lemmas.List.{append_assoc}
use Rattle.std.specs.String.{string_bytes}
use Rattle.std.specs.declared.string.String.{String}
use Rattle.desk.specs.Replies.{most_reply_bytes}
use Rattle.desk.specs.Rooms.{HasRoom, Grows}

module _ {Z : Type 0} where
  pub grows_then : {a b c : String Z} {xs ys : List ℕ} {m n : ℕ} → Grows a b xs m → Grows b c ys n → Grows a c (xs ++ ys) (m + n)
  grows_then {a} {b} {c} {xs} {ys} {m} {n} g h = record {
    written = h.written ∙ (ap (λ zs. zs ++ ys) g.written ∙ append_assoc (string_bytes a) xs ys);
    few = (let p = g.few in let q = h.few in omega (arith, p, q));
    kept = (let p = g.kept in let q = h.kept in omega (arith, p, q));
  }

  -- a line less is left, and its reply was written
  pub room_left : {a b : String Z} {xs : List ℕ} (n m : ℕ) → HasRoom a (n * most_reply_bytes) → Grows a b xs most_reply_bytes → m + 1 ≤ n → HasRoom b (m * most_reply_bytes)
  room_left n m room g less = let few = g.few in let kept = g.kept in omega (arith, room, few, kept, less)
