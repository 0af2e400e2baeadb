use Rattle.std.proofs.Common.{sym, inl, inr, arith}
use Rattle.std.proofs.lemmas.Bool.{cases_lt}
use Rattle.sheet.proofs.Held.{reader_row, row_misses, rows_full}
use Rattle.sheet.proofs.reader.Reader.has_full_rows.Goals as goal

pub returns-then-total-from : goal.returns-then-total-from
returns-then-total-from c =
    sym (row_misses c.args.self.now c.loop-state.state (grind arith) (grind arith) (grind arith) c.loop-state-test.true (grind arith))

pub loop-state-preserved : goal.loop-state-preserved
loop-state-preserved c =
    λ i h. elim (cases_lt i c.loop-state.state) [
      | inl l ↦ c.loop-state.invariant i l
      | inr l ↦ let row = reader_row c.args.self.now i (grind arith) (grind arith) (omega (arith, h, c.loop-state-test.true)) in grind arith
    ]

pub returns : goal.returns
returns c = sym (rows_full c.args.self.now (grind arith) (grind arith) (λ i h. c.loop-state.invariant i (grind arith)))
