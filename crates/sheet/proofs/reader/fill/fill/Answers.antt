use Rattle.std.proofs.Common.{rules}
use Rattle.sheet.proofs.Filled.{fill_more}
use Rattle.sheet.proofs.reader.fill.fill.Goals as goal

pub loop-i-preserved : goal.loop-i-preserved
loop-i-preserved c =
    let more = fill_more c.args.numbers.now c.args.column.now c.loop-i.i c.loop-i-test.true c.requires in
    search rules
