use Rattle.std.proofs.Common.{◌≡◌, ℤ, map, take, vec_items, vec_len, vec_capacity}
use Rattle.plan.specs.Readings.{GivesBack}
use Rattle.plan.proofs.table.make.refill.Given as goal

abbrev pub invariant-loop-entry : goal.invariant-loop-entry
invariant-loop-entry g l = record {
  items : (value : g.row.T.Denot → ℤ) → GivesBack value (λ z y. g.F.Fn.post l.fn.read (z, tt) y) l.column → map value (vec_items l.filled) ≡ take l.entry-index l.column;
  places : vec_len l.filled ≡ l.entry-index;
  room : vec_capacity l.filled ≡ vec_capacity l.initial.filled;
}
