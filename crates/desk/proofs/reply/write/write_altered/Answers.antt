use Rattle.std.proofs.Common.{rules}
use Rattle.desk.proofs.Rooms.{grows_then}
use Rattle.desk.proofs.reply.write.write_altered.Goals as goal

pub returns : goal.returns
returns c =
    let written = grows_then c.write_text.ensures (grows_then c.write_field.ensures c.write_amounts.ensures) in
    Prim.search (rules, written)
