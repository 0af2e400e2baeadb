use Rattle.std.proofs.Common.{string_bytes}
use Rattle.figures.proofs.SheetLines.{one_more}
use Rattle.figures.proofs.sheet_text.write_row.Goals as goal

pub loop-to-preserved : goal.loop-to-preserved
loop-to-preserved g c =
    one_more _ c.loop-to.to
    (string_bytes c.args.text.now) (string_bytes c.loop-to.text) (string_bytes c.write_move.new.text)
    c.loop-to.invariant c.in_ok-write_move.ensures
