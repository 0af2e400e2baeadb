use Rattle.std.proofs.Common.{◌≤◌, ◌*◌, length}
use Rattle.std.specs.String.{string_bytes, string_capacity}
use Rattle.sheet.specs.Fields.{bytes_of}
use Rattle.desk.specs.Replies.{most_reply_bytes}
use Rattle.desk.specs.Rooms.{HasRoom}
use Rattle.desk.proofs.Sittings.{Ahead}
use Rattle.desk.proofs.session.lines.answer_commands.Given as goal

abbrev pub invariant-loop-held : goal.invariant-loop-held
invariant-loop-held l = record {
  ahead : Ahead l.basis l.fn.rest.spot (bytes_of l.fn.rest) (string_bytes l.fn.out) l.held l.text (string_bytes l.out);
  room : HasRoom l.out (length (bytes_of l.text) * most_reply_bytes);
  grown : string_capacity l.fn.out ≤ string_capacity l.out;
}

abbrev pub decreases-loop-held : goal.decreases-loop-held
decreases-loop-held l = length (bytes_of l.text)
