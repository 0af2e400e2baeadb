use Rattle.std.proofs.Common.{arith}
use Rattle.desk.proofs.session.Session.new.Goals as goal

pub invariant_of-result : goal.invariant_of-result
invariant_of-result c = let e = c.in_ok-text.ensures.capacity in record { room = omega (arith, e) }

pub returns : goal.returns
returns c = c.in_ok-text.ensures.bytes
