use Rattle.std.proofs.Common.{inl, inr, subst}
use Rattle.std.proofs.lemmas.Result.{err_from_is_err_and}
use Rattle.std.specs.Io.KnownBytes.{Appends}
use Rattle.std.specs.String.{string_bytes}
use Rattle.streams.specs.Streams.{IsWrittenInPart, most_read}
use Rattle.streams.proofs.Runs.{keeps_same, answered}
use Rattle.sheet_reserves.specs.Outcomes.{IsPage}
use Rattle.sheet_reserves.proofs.Pages.{longer}
use Rattle.sheet_reserves.proofs.run.run.Goals as goal

pub returns-in_err-input-clause-written : goal.returns-in_err-input-clause-written
returns-in_err-input-clause-written g c =
    let result = c.from_residual.result in
    let failed = err_from_is_err_and result c.from_residual.ensures.1 in
    rw failed.1 (inl (keeps_same (g.W.Write.contents c.args.writer.now)))

pub returns-in_err-page-clause-written : goal.returns-in_err-page-clause-written
returns-in_err-page-clause-written g c =
    let result = c.from_residual-in_err-page.result in
    let failed = err_from_is_err_and result c.from_residual-in_err-page.ensures.1 in
    rw failed.1 (inl (keeps_same (g.W.Write.contents c.args.writer.now)))

pub returns-in_err-write_whole-clause-written : goal.returns-in_err-write_whole-clause-written
returns-in_err-write_whole-clause-written g c =
    let held = g.W.Write.contents c.args.writer.now in
    let holds = g.W.Write.contents c.write_whole.new.writer in
    let bytes = c.in_ok-input.input.items in
    let text = string_bytes c.in_ok-page.page in
    let page = subst (λ xs. IsPage xs text) c.deref.ensures.value c.in_ok-page.ensures in
    let is = answered IsPage most_read _ _ longer bytes text c.in_ok-input.ensures page in
    let front = subst (IsWrittenInPart held holds) c.as_bytes.ensures.value c.in_err-write_whole.ensures in
    let result = c.from_residual-in_err-write_whole.result in
    let failed = err_from_is_err_and result c.from_residual-in_err-write_whole.ensures.1 in
    rw failed.1 (inr (text, is, front))

pub returns-clause-written : goal.returns-clause-written
returns-clause-written g c =
    let held = g.W.Write.contents c.args.writer.now in
    let holds = g.W.Write.contents c.write_whole.new.writer in
    let bytes = c.in_ok-input.input.items in
    let text = string_bytes c.in_ok-page.page in
    let page = subst (λ xs. IsPage xs text) c.deref.ensures.value c.in_ok-page.ensures in
    let is = answered IsPage most_read _ _ longer bytes text c.in_ok-input.ensures page in
    (text, is, subst (Appends held holds) c.as_bytes.ensures.value c.in_ok-write_whole.ensures)
