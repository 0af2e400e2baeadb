use Rattle.std.proofs.Common.{◌≡◌, map, take, pos, vec_items, vec_len, vec_capacity}
use Rattle.basis.proofs.fill.refill.Given as goal

abbrev pub invariant-loop-entry : goal.invariant-loop-entry
invariant-loop-entry l =
    (map pos (vec_items l.parts) ≡ take l.entry-index l.column)
    × (vec_len l.parts ≡ l.entry-index)
    × (vec_capacity l.parts ≡ vec_capacity l.initial.parts)
