-- What the desk answers to a whole input. Assumes nothing.
use Rattle.std.specs.Prelude.{ℕ, ◌*◌, ◌<◌, ◌≤◌, List, length, None}
use Rattle.units.specs.declared.fault.Fault.{Fault}
use Rattle.sheet.specs.Faults.{Refuses, spot_past}
use Rattle.sheet.specs.Lines.{start}
use Rattle.sheet.specs.Sheets.{Sheet, IsSheet, basis_of}
use Rattle.sheet.specs.Taken.{most}
use Rattle.sheet.specs.Texts.{text_of}
use Rattle.streams.specs.Streams.{most_bytes}
use Rattle.desk.specs.Replies.{most_reply_bytes, reply_text}
use Rattle.desk.specs.Sessions.{Session, told_at}
use Rattle.desk.specs.declared.reply.Reply.TheVariants as says

-- no answer has more bytes: each line of an input has one at least, and is answered by one reply
abbrev pub most_text_bytes : ℕ
most_text_bytes = most_bytes * most_reply_bytes

-- an input that is too long, one that does not begin with a sheet, and a sheet with commands on its
-- basis
pub data IsAnswer (bytes : List ℕ) : List ℕ → Type 0 where
  too_long : most_bytes < length bytes → IsAnswer bytes (reply_text (says.Refused 1 1 0))
  no_sheet : {fault : Fault} → length bytes ≤ most_bytes → Refuses most bytes fault → IsAnswer bytes (reply_text (told_at start fault))
  session : {s : Sheet} {rest text : List ℕ} → length bytes ≤ most_bytes → IsSheet most bytes s rest → Session (basis_of s) None (spot_past (text_of (basis_of s))) rest text → IsAnswer bytes text
