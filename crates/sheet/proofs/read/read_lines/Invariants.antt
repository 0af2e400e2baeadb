use Rattle.std.proofs.Common.{ℕ, List, length}
use Rattle.sheet.specs.Fields.{bytes_of}
use Rattle.sheet.specs.Lines.{start}
use Rattle.sheet.specs.Readers.{held}
use Rattle.sheet.specs.Reading.{Outcome, Reads, nothing_yet}
use Rattle.sheet.specs.Readings.{IsRestAfter}
use Rattle.sheet.proofs.read.read_lines.Given as goal

abbrev pub invariant-loop-line : goal.invariant-loop-line
invariant-loop-line l = ((outcome : Outcome) → Reads l.columns (held l.reader) l.text.spot (bytes_of l.text) outcome → Reads l.columns nothing_yet start l.bytes outcome) × ((before : List ℕ) × IsRestAfter before l.bytes l.text)

abbrev pub decreases-loop-line : goal.decreases-loop-line
decreases-loop-line l = length (bytes_of l.text)
