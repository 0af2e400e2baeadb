use Rattle.std.proofs.Common.{string_bytes}
use Rattle.figures.proofs.SheetLines.{one_more}
use Rattle.figures.proofs.sheet_text.write_year.Goals as goal

pub loop-from-preserved : goal.loop-from-preserved
loop-from-preserved g c =
    one_more _ c.loop-from.from
    (string_bytes c.write.new.self) (string_bytes c.loop-from.text) (string_bytes c.write_row.new.text)
    c.loop-from.invariant c.in_ok-write_row.ensures
