use Rattle.std.proofs.Common.{◌+◌, ◌≤◌, vec_items, vec_len, vec_capacity, length}
use Rattle.contract.specs.Calls.{Goes}
use Rattle.contract.proofs.run.answer_all.Given as goal

abbrev pub invariant-loop-request : goal.invariant-loop-request
invariant-loop-request g l = record {
  callable : (goal.iterator-loop-request g).can_next l.request-iterator;
  finite : (goal.iterator-loop-request g).is_finite l.request-iterator;
  room : vec_len l.answers + vec_len l.fn.requests ≤ vec_capacity l.answers + length l.yielded;
  goes : Goes (g.V.Valuation.operations l.valuation) l.fn.contract l.yielded (vec_items l.fn.answers) (vec_items l.answers) l.contract;
}
