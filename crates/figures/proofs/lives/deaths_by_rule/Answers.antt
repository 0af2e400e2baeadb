use Rattle.std.proofs.Common.{◌+◌, ◌*◌, pos, rules}
use Rattle.std.proofs.lemmas.List.FromFn.{fill_by_all}
use Rattle.figures.proofs.lives.deaths_by_rule.Goals as goal

pub returns : goal.returns
returns c = fill_by_all (λ t. pos (1000 + 5000 * t)) c.from_fn.result 120 (pos 0) c.from_fn.ensures.items.long
    (λ k inside. let call = c.from_fn.ensures.items.at k (pos 0) inside in search rules)
