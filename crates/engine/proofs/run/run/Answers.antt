use Rattle.std.proofs.Common.{inl, MatchResult, subst}
use Rattle.std.proofs.lemmas.Result.{err_from_is_err_and}
use Rattle.std.specs.Io.KnownBytes.{Appends}
use Rattle.streams.specs.Streams.{IsWrittenInPart, most_read}
use Rattle.streams.proofs.Runs.{keeps_same, answered, ran}
use Rattle.desk.specs.Inputs.{IsAnswer}
use Rattle.engine.proofs.Whole.{longer}
use Rattle.engine.proofs.run.run.Goals as goal

pub returns-in_err-input-clause-answered : goal.returns-in_err-input-clause-answered
returns-in_err-input-clause-answered g c =
    let result = c.from_residual-in_err-input.result in
    let failed = err_from_is_err_and result c.from_residual-in_err-input.ensures.1 in
    rw failed.1 (inl (keeps_same (g.W.Write.contents c.args.writer.now)))

pub returns-clause-answered : goal.returns-clause-answered
returns-clause-answered g c =
    let held = g.W.Write.contents c.args.writer.now in
    let holds = g.W.Write.contents c.write_whole.new.writer in
    let result = c.write_whole.result in
    let bytes = c.in_ok-input.input.items in
    let text = c.answer.result.now in
    let answers = subst (λ xs. IsAnswer xs text) c.deref.ensures.value c.answer.ensures.answer in
    let is = answered IsAnswer most_read _ _ longer bytes text c.in_ok-input.ensures answers in
    let wrote = subst (λ xs. MatchResult result (λ _. Appends held holds xs) (λ _. IsWrittenInPart held holds xs)) c.as_bytes.ensures.value c.write_whole.ensures in
    ran IsAnswer most_read _ _ result _ _ text is wrote
