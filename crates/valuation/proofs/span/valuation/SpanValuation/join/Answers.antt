use Rattle.std.proofs.Common.{◌≡◌, ◌∙◌, [], ap, sym}
use Rattle.std.specs.Option.{unwrap_or}
use Rattle.std.proofs.lemmas.Slice.Zip.{either_empty_from_Zip}
use Rattle.valuation.specs.SpanOperations.{possible, hull}
use Rattle.valuation.proofs.Hulls.{hull_with, possible_ended, hull_ended}
use Rattle.valuation.proofs.span.valuation.SpanValuation.join.Goals as goal

pub returns : goal.returns
returns c =
    let ended = either_empty_from_Zip c.loop-share.share-iterator c.next.new.self c.next.result c.in-None.is c.next.ensures.steps in
    let whole : hull_with c.loop-share.hull [] ≡ hull (possible c.args.row.now c.args.following.now) = ap (hull_with c.loop-share.hull) (sym (possible_ended _ _ ended)) ∙ c.loop-share.invariant in
    c.unwrap_or.ensures ∙ ap (unwrap_or c.loop-share.hull) c.make.ensures ∙ hull_ended c.loop-share.hull ∙ whole
