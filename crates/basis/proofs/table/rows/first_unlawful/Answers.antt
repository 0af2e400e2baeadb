use Rattle.std.proofs.Common.{◌≡◌, ap, ◌∙◌, refl, rules}
use Rattle.std.specs.Slice.Iter.{chunks_exact_size, chunks_exact_rest}
use Rattle.basis.proofs.Chunks.{first_row}
use Rattle.basis.proofs.table.rows.first_unlawful.Goals as goal

pub returns : goal.returns
returns c =
    let run = c.position.ensures.runs in
    let size : chunks_exact_size run.0.from ≡ c.args.states = ap chunks_exact_size run.1 ∙ c.chunks_exact.ensures.size in
    let rest : chunks_exact_rest run.0.from ≡ c.args.shares.now = ap chunks_exact_rest run.1 ∙ c.chunks_exact.ensures.rest in
    let run_of_chunks = c.chunks_exact.ensures.runs run.0 run.0.seen in
    let chunks = rw (size, rest) at run_of_chunks in
    let found = first_row run.0 c.args.states c.args.shares.now (chunks c.requires.some) _ _ (λ a r f h. refl) (λ x h. search rules) (λ x h. search rules) c.position.result c.requires.some run.2 in
    search rules
