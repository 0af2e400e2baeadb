use Rattle.std.proofs.Common.{◌≡◌, ◌∙◌, length, drop, take, sym, subst, arith}
use Rattle.streams.specs.Streams.{IsRead, most_read}
use Rattle.streams.proofs.Chains.{front_kept}
use Rattle.streams.proofs.input.read_input.Goals as goal

pub returns : goal.returns
returns g c =
    let before = g.R.Read.remaining c.args.reader.now in
    let after = g.R.Read.remaining c.read_up_to.new.reader in
    let buffer = c.read_up_to.new.buffer in
    let input = c.in_ok-input.input in
    let count = c.in_ok-count.count in
    let left = drop (length buffer) input.items in
    let items = c.truncate.new.self.items in
    let same : length buffer ≡ input.len = c.in_ok-count.ensures.length ∙ c.deref_mut.ensures.len in
    let full : length buffer ≡ most_read = omega (arith, same, c.in_ok-input.ensures.len) in
    let kept = front_kept count input.len buffer left items (sym same) c.truncate.ensures.items in
    let read : IsRead most_read before after (take count buffer) =
    subst (λ n. IsRead n before after (take count buffer)) full c.in_ok-count.ensures.read.0 in
    subst (IsRead most_read before after) (sym kept) read
