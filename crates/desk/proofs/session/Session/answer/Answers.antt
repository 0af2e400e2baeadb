use Rattle.std.proofs.Common.{rules}
use Rattle.desk.specs.Inputs.{IsAnswer}
use Rattle.desk.proofs.OneAnswer.{one_answer}
use Rattle.desk.proofs.WorkedInput.{worked}
use Rattle.desk.proofs.session.Session.answer.Goals as goal

pub returns : goal.returns
returns c =
    let answered : IsAnswer c.args.bytes.now c.as_str.result.now = rw c.as_str.ensures.value (search rules) in
    (answered, (λ other also. one_answer c.args.bytes.now c.as_str.result.now other answered also, worked))
