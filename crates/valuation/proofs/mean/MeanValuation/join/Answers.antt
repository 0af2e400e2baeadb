use Rattle.std.proofs.Common.{◌≡◌, ◌∙◌, w64, to_z, of_z, sym, rules}
use Rattle.std.proofs.lemmas.Slice.Zip.{either_empty_from_Zip}
use Rattle.valuation.specs.Means.{mean}
use Rattle.valuation.proofs.Agreement.{join_is}
use Rattle.valuation.proofs.Sums.{weighted_all}
use Rattle.valuation.proofs.mean.MeanValuation.join.Goals as goal

pub returns : goal.returns
returns c =
    let ended = either_empty_from_Zip c.loop-share.share-iterator c.next.new.self c.next.result c.in-None.is c.next.ensures.steps in
    let whole = sym (weighted_all _ _ _ ended) ∙ c.loop-share.invariant in
    let meaning : to_z w64 (of_z w64 c.round_mean.result) ≡ mean.join c.args._state c.args.row.now c.args.following.now = search rules in
    record { meaning = meaning; formula = λ lawful each. meaning ∙ join_is c.args.row.now c.args.following.now c.args._state lawful each }
