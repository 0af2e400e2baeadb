use Rattle.page.proofs.Fit.{fit}
use Rattle.page.proofs.swiss_men.swiss_men.Goals as goal

pub returns-in_err-take_in : goal.returns-in_err-take_in
returns-in_err-take_in c = absurd (c.in_err-take_in.ensures.outcome.0 fit)
