use Rattle.figures.proofs.LivesFit.{two_years_fit}
use Rattle.figures.proofs.endowment.two_years.Goals as goal

pub returns-in_err-take_in : goal.returns-in_err-take_in
returns-in_err-take_in c = absurd (c.in_err-take_in.ensures.outcome.0 two_years_fit)
