use Rattle.std.proofs.Common.{ℕ, ◌<◌, length, ◌++◌, ◌∷◌, [], sym, ap₂, ◌∙◌, arith}
use Rattle.std.proofs.lemmas.List.{take_more_set}
use Rattle.std.proofs.lemmas.List.FromFn.{map-range_with_len_more}
use Rattle.valuation.specs.declared.span.ends.Ends.{Ends}
use Rattle.valuation.specs.Figures.{figure_from}
use Rattle.valuation.specs.SpanOperations.{span}
use Rattle.valuation.proofs.span.year.ExactYear+Ends+B+P.fill.Goals as goal

pub loop-state-preserved : goal.loop-state-preserved
loop-state-preserved g c =
    let year = c.args.self.now in
    let figure : ℕ → Ends = λ i. figure_from span (g.B.Basis.meaning year.basis.now) (g.P.Plan.payments year.plan.now) year.premium.ticks i year.year year.after.now in
    let inside : c.loop-state.state < length c.loop-state.figures = omega (arith, c.loop-state-test.true, c.loop-state.auto.figures) in
    take_more_set c.loop-state.figures c.loop-state.state c.figure.result inside
    ∙ ap₂ (λ xs x. xs ++ x ∷ []) c.loop-state.invariant c.figure.ensures
    ∙ sym (map-range_with_len_more figure 0 c.loop-state.state c.loop-state.state (omega arith))
