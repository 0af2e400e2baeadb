use Rattle.std.proofs.Common.{◌≡◌, rules}
use Rattle.valuation.specs.Spans.{ends}
use Rattle.valuation.proofs.Enclosure.{encloses}
use Rattle.valuation.proofs.Extremes.{extremes}
use Rattle.valuation.proofs.Plain.{span_nowhere_lower, span_never_raised}
use Rattle.valuation.proofs.SpanAgreement.{ends_is, ends_bound, ends_are_figure}
use Rattle.valuation.proofs.span.span.Goals as goal

pub returns : goal.returns
returns g c =
    let b = g.B.Basis.meaning c.args.basis.now in
    let p = g.P.Plan.payments c.args.plan.now in
    let law = g.met.B.Basis.lawful c.args.basis.now in
    let range = g.met.P.Plan.bounded c.args.plan.now in
    let is = ends_is b law p range c.args.premium.ticks c.args.premium.range c.args.state c.args.year in
    let value : c.figure.result ≡ ends b p c.args.premium.ticks c.args.state c.args.year = search rules in
    record {
      value = value;
      figure_of_the_span = ends_are_figure;
      laws = extremes;
      range = rw (value) (ends_bound b law p range c.args.premium.ticks c.args.premium.range c.args.state c.args.year);
      encloses = rw (value) (encloses b law p c.args.premium.ticks c.args.state c.args.year);
      nowhere_valued_lower = span_nowhere_lower b;
      never_raised_by_premium = span_never_raised b;
    }
