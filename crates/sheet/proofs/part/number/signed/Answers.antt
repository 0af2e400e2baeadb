use Rattle.std.proofs.Common.{rules, arith}
use Rattle.sheet.proofs.Signs.{nothing_behind, nought_behind}
use Rattle.sheet.proofs.part.number.signed.Goals as goal

pub returns-in_err-value-in-45 : goal.returns-in_err-value-in-45
returns-in_err-value-in-45 c =
    let none = nothing_behind c.args.bytes.now (grind arith) (grind arith) in
    search rules

pub returns-in-0 : goal.returns-in-0
returns-in-0 c = nought_behind c.args.bytes.now (grind arith) (grind arith)
