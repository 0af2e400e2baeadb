use Rattle.std.proofs.Common.{◌/◌, ◌%◌, arith, rules}
use Rattle.plan.proofs.table.check.check_moves.Goals as goal

pub returns-in-Some : goal.returns-in-Some
returns-in-Some c = let p = c.in-Some.place in record {
  from = p / 8 % 8;
  to = p % 8;
  year = p / 8 / 8;
  inside_from = omega arith;
  inside_to = omega arith;
  first = search rules;
  is = search rules;
}
