use Rattle.std.proofs.lemmas.Int.{to_z-of_z}
use Rattle.desk.proofs.Rooms.{grows_then}
use Rattle.desk.proofs.reply.write.write_issued.Goals as goal

pub returns : goal.returns
returns c =
    simp (to_z-of_z, c.ranges.premium, c.ranges.reserve, c.ranges.opening_result) at (grows_then c.write_text.ensures c.write_amounts.ensures)
