-- Taking a column in. Assumes nothing.
use Rattle.std.proofs.Common.{List, ℤ}
use Rattle.units.specs.declared.fault.Fault.{Fault}
use Rattle.basis.specs.LifeColumns.{Fit, Refuses, unfit_length, unfit_factor, unfit_share}

pub unfit : (column : List ℤ) (factor : ℤ) (fault : Fault) → Refuses column factor fault → Fit column factor → ⊥
unfit column factor fault (unfit_length is bad) fit = bad fit.years
unfit column factor fault (unfit_factor is years bad) fit = bad fit.discount
unfit column factor fault (unfit_share t is years discount first) fit = first.outside (fit.shares t first.inside)
