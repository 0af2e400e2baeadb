use Rattle.std.proofs.Common.{rules, vec_items, ◌∷◌, [], arith}
use Rattle.std.proofs.lemmas.List.{length-append}
use Rattle.contract.proofs.Loops.{goes_nowhere, goes_further}
use Rattle.contract.proofs.run.answer_all.Goals as goal

pub loop-request-init : goal.loop-request-init
loop-request-init g c = record {
  callable = tt;
  finite = tt;
  room = Prim.search rules;
  goes = goes_nowhere (g.V.Valuation.operations c.args.valuation.now) c.args.contract.now (vec_items c.args.answers.now);
}

pub loop-request-preserved : goal.loop-request-preserved
loop-request-preserved g c =
    let so_far = c.loop-request.invariant in
    record {
      callable = tt;
      finite = tt;
      room = omega (arith, length-append c.loop-request.yielded (c.in-Some.request ∷ []), so_far.room, c.push_reserved.ensures.len, c.push_reserved.ensures.capacity);
      goes = goes_further (g.V.Valuation.operations c.args.valuation.now) c.args.contract.now c.loop-request.contract c.answer-answer.new.self c.loop-request.yielded c.in-Some.request (vec_items c.args.answers.now) (vec_items c.loop-request.answers) (vec_items c.push_reserved.new.self) c.answer-answer.result c.push_reserved.ensures.items so_far.goes c.answer-answer.ensures;
    }
