use Rattle.std.proofs.Common.{rules, ◌≡◌, ℕ, ◌<◌, length, ◌++◌, ◌∷◌, [], ℤ, w64, to_z, of_z, sym, ap₂, ◌∙◌, arith}
use Rattle.std.proofs.lemmas.List.{take_more_set}
use Rattle.std.proofs.lemmas.List.FromFn.{map-range_with_len_more}
use Rattle.valuation.specs.Figures.{figure_from}
use Rattle.valuation.specs.Means.{mean}
use Rattle.valuation.proofs.mean.year.ExactYear+i64+B+P.fill.Goals as goal

pub loop-state-preserved : goal.loop-state-preserved
loop-state-preserved g c =
    let year = c.args.self.now in
    let figure : ℕ → ℤ = λ i. figure_from mean (g.B.Basis.meaning year.basis.now) (g.P.Plan.payments year.plan.now) year.premium.ticks i year.year year.after.now in
    let inside : c.loop-state.state < length c.loop-state.figures = omega (arith, c.loop-state-test.true, c.loop-state.auto.figures) in
    let kept : to_z w64 (of_z w64 c.figure.result) ≡ c.figure.result = search rules in
    take_more_set c.loop-state.figures c.loop-state.state _ inside
    ∙ ap₂ (λ xs x. xs ++ x ∷ []) c.loop-state.invariant (kept ∙ c.figure.ensures)
    ∙ sym (map-range_with_len_more figure 0 c.loop-state.state c.loop-state.state (omega arith))
