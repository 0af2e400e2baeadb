-- The lines of the worked replies. Assumes nothing.
use Rattle.std.proofs.Common.{refl}
use Rattle.std.specs.Fmt.{digits}
use Rattle.desk.specs.WorkedReplies.{WorkedReplies}

pub worked_replies : WorkedReplies
unfolding digits
worked_replies = record { lines = refl; longest = refl }
