use Rattle.std.proofs.Common.{arith}
use Rattle.sheet.proofs.Numbers.{nothing_written, nought_written, leading_nought, too_long, digits_decide}
use Rattle.sheet.proofs.part.number.unsigned.Goals as goal

pub returns-in-empty : goal.returns-in-empty
returns-in-empty c = λ n. nothing_written c.args.bytes.now n (grind arith)

pub returns-in-48 : goal.returns-in-48
returns-in-48 c = nought_written c.args.bytes.now (grind arith) (grind arith)

pub returns-in-48-2 : goal.returns-in-48-2
returns-in-48-2 c = λ n. leading_nought c.args.bytes.now n (grind arith) (grind arith)

pub returns-in_default : goal.returns-in_default
returns-in_default c = λ n. too_long c.args.bytes.now n (grind arith)

pub returns-in_default-2 : goal.returns-in_default-2
returns-in_default-2 c =
    digits_decide c.args.bytes.now c.digits.result (grind arith) (grind arith) (grind arith) c.digits.ensures
