use Rattle.valuation.proofs.Order.{nowhere_valued_lower, never_raised_by_premium}
use Rattle.valuation.proofs.figure.figure.Goals as goal

pub returns-clause-nowhere_valued_lower : goal.returns-clause-nowhere_valued_lower
returns-clause-nowhere_valued_lower g c = nowhere_valued_lower _ _ (g.met.V.Valuation.ordered c.args.valuation.now) _

pub returns-clause-never_raised_by_premium : goal.returns-clause-never_raised_by_premium
returns-clause-never_raised_by_premium g c = never_raised_by_premium _ _ (g.met.V.Valuation.ordered c.args.valuation.now) _
