use Rattle.desk.proofs.Rooms.{grows_then}
use Rattle.desk.proofs.reply.write.write_reply.Goals as goal

pub returns : goal.returns
returns c = grows_then c.write_line.ensures c.write_text.ensures
