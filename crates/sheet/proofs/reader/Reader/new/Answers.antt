use Rattle.sheet.proofs.Joins.{noughts}
use Rattle.sheet.proofs.reader.Reader.new.Goals as goal

pub invariant_of-result-clause-noughts : goal.invariant_of-result-clause-noughts
invariant_of-result-clause-noughts c = λ k h. noughts 7680 k
