use Rattle.std.proofs.Common.{sym, subst}
use Rattle.basis.specs.LifeColumns.{Fit}
use Rattle.figures.specs.Lives.{factor}
use Rattle.figures.proofs.LivesFit.{longest_fit}
use Rattle.figures.proofs.lives.longest.Goals as goal

pub returns-in_err-take_in : goal.returns-in_err-take_in
returns-in_err-take_in c = absurd (c.in_err-take_in.ensures.outcome.0 (subst (λ column. Fit column factor) (sym c.deaths_by_rule.ensures) longest_fit))
