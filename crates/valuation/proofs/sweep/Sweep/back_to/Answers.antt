use Rattle.std.proofs.Common.{◌≡◌, ◌+◌, ◌-◌, ◌*◌, ◌<◌, ◌≤◌, ◌++◌, take, drop, length, sym, ap, ap₂, ◌∙◌, zero-mul, arith}
use Rattle.valuation.specs.Figures.{figures_of, rows_from}
use Rattle.valuation.proofs.Backwards.{filled, row_kept}
use Rattle.valuation.proofs.sweep.Sweep.back_to.Goals as goal

pub loop-year-preserved : goal.loop-year-preserved
loop-year-preserved g c =
    let sweep = c.args.self.now in
    let v = g.V.Valuation.operations sweep.valuation.now in
    let b = g.B.Basis.meaning sweep.basis.now in
    let p = g.P.Plan.payments sweep.plan.now in
    let this : c.loop-year.year - 1 + 1 ≡ c.loop-year.year = omega (arith, c.loop-year-test.true) in
    let early : c.loop-year.year - 1 < b.years = omega (arith, c.loop-year-test.true, c.loop-year.auto.year, c.years-years.ensures) in
    let from : c.args.first ≤ c.loop-year.year - 1 = omega (arith, c.loop-year-test.true) in
    let known = c.loop-year.invariant.0 ∙ ap (figures_of v b p sweep.premium.ticks) (sym this) in
    let row = filled v b p sweep.premium.ticks c.states-states.result c.states-states.ensures (c.loop-year.year - 1) early c.loop-year.figures c.fill_year.new.figures known c.fill_year.ensures in (
      row,
      (λ long.
          let same : length c.loop-year.rows ≡ (c.years-years.result + 1 - c.args.first) * c.states-states.result = sym c.keep-in-loop-year.ensures.as_long ∙ long in
          let places : length c.loop-year.rows ≡ (b.years + 1 - c.args.first) * c.states-states.result = same ∙ ap (λ n. (n + 1 - c.args.first) * c.states-states.result) c.years-years.ensures in
          let later = ap (λ t. drop ((t - c.args.first) * c.states-states.result) c.loop-year.rows) this ∙ c.loop-year.invariant.1 same ∙ ap (rows_from v b p sweep.premium.ticks) (sym this) in
          row_kept v b p sweep.premium.ticks c.states-states.result c.states-states.ensures c.args.first (c.loop-year.year - 1) from (omega (arith, early)) c.loop-year.rows (take c.states-states.result (c.fill_year.new.figures ++ drop c.states-states.result c.loop-year.figures)) c.keep-in-loop-year.new.rows row places later c.keep-in-loop-year.ensures.kept),
      from,
    )

pub returns-clause-rows : goal.returns-clause-rows
returns-clause-rows g c long =
    let sweep = c.args.self.now in
    let v = g.V.Valuation.operations sweep.valuation.now in
    let b = g.B.Basis.meaning sweep.basis.now in
    let p = g.P.Plan.payments sweep.plan.now in
    let last : c.loop-year.year ≡ c.args.first = omega (arith, c.loop-year-test.false, c.loop-year.invariant.2) in
    let none : (c.loop-year.year - c.args.first) * c.states-states.result ≡ 0 = ap (λ t. (t - c.args.first) * c.states-states.result) last ∙ ap (λ n. n * c.states-states.result) (let nought : c.args.first - c.args.first ≡ 0 = omega arith in nought) ∙ zero-mul c.states-states.result in
    let same : length c.loop-year.rows ≡ (c.years-years.result + 1 - c.args.first) * c.states-states.result =
    c.loop-year.auto.rows ∙ c.keep.ensures.as_long ∙ long ∙ ap₂ (λ n m. (n + 1 - c.args.first) * m) (sym c.years-years.ensures) (sym c.states-states.ensures) in
    sym (ap (λ n. drop n c.loop-year.rows) none) ∙ c.loop-year.invariant.1 same ∙ ap (rows_from v b p sweep.premium.ticks) last

pub returns-clause-figures : goal.returns-clause-figures
returns-clause-figures g c =
    let sweep = c.args.self.now in
    let v = g.V.Valuation.operations sweep.valuation.now in
    let b = g.B.Basis.meaning sweep.basis.now in
    let p = g.P.Plan.payments sweep.plan.now in
    let last : c.loop-year.year ≡ c.args.first = omega (arith, c.loop-year-test.false, c.loop-year.invariant.2) in
    ap (λ m. take m c.loop-year.figures) (sym c.states-states.ensures) ∙ c.loop-year.invariant.0 ∙ ap (figures_of v b p sweep.premium.ticks) last
