-- One input that is too long is answered as any other. Assumes nothing.
use Rattle.std.proofs.Common.{ℕ, ◌≤◌, List, length, arith}
use Rattle.streams.specs.Streams.{most_read}
use Rattle.desk.specs.Inputs.{IsAnswer, too_long, no_sheet, session}

pub longer : (bytes input text : List ℕ) → most_read ≤ length bytes → most_read ≤ length input → IsAnswer bytes text → IsAnswer input text
longer bytes input _ full long (too_long _) = too_long (omega (arith, long))
longer bytes input _ full long (no_sheet short refuses) = absurd (omega (arith, short, full))
longer bytes input _ full long (session short sheet lines) = absurd (omega (arith, short, full))
