use Rattle.std.proofs.Common.{◌≡◌, ◌<◌, ℕ}
use Rattle.sheet.specs.Checks.{row_total}
use Rattle.sheet.specs.Readers.{held}
use Rattle.units.specs.Ranges.{million}
use Rattle.sheet.proofs.reader.Reader.has_full_rows.Given as goal

abbrev pub invariant-loop-state : goal.invariant-loop-state
invariant-loop-state l = (i : ℕ) → i < l.state → row_total (held l.self) l.year i ≡ million
