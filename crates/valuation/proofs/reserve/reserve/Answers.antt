use Rattle.std.proofs.Common.{◌≡◌, w64, to_z, of_z, rules}
use Rattle.valuation.specs.Reserves.{reserve}
use Rattle.valuation.proofs.Agreement.{figure_is, reserve_bound, reserve_is_figure}
use Rattle.valuation.proofs.Closeness.{reserve_near}
use Rattle.valuation.proofs.Plain.{reserve_nowhere_lower, reserve_never_raised}
use Rattle.valuation.proofs.WorkedCase.{worked_rounding, worked_figures}
use Rattle.valuation.proofs.reserve.reserve.Goals as goal

pub returns : goal.returns
returns g c =
    let b = g.B.Basis.meaning c.args.basis.now in
    let p = g.P.Plan.payments c.args.plan.now in
    let law = g.met.B.Basis.lawful c.args.basis.now in
    let range = g.met.P.Plan.bounded c.args.plan.now in
    let is = figure_is b law p range c.args.premium.ticks c.args.premium.range c.args.state c.args.year in
    let value : to_z w64 (of_z w64 c.figure.result) ≡ reserve b p c.args.premium.ticks c.args.state c.args.year = search rules in
    record {
      value = value;
      figure_of_the_mean = reserve_is_figure;
      range = rw value (reserve_bound b law p range c.args.premium.ticks c.args.premium.range c.args.state c.args.year);
      near_exact = λ inside early. rw value (reserve_near b law p c.args.premium.ticks c.args.state c.args.year inside early);
      nowhere_valued_lower = reserve_nowhere_lower b;
      never_raised_by_premium = reserve_never_raised b;
      worked_rounding = worked_rounding;
      worked_figures = worked_figures;
    }
