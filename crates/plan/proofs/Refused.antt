-- What is refused is not fit. Assumes nothing.
use Rattle.std.specs.Prelude.{ℕ, List, ℤ}
use Rattle.units.specs.declared.fault.Fault.{Fault}
use Rattle.plan.specs.PaymentColumns.{Fit, Refuses, unfit_size, unfit_benefit, unfit_mark, unfit_move}

pub unfit : (k : ℕ) (benefits marks moves : List ℤ) (fault : Fault) → Refuses k benefits marks moves fault → Fit k benefits marks moves → ⊥
unfit k benefits marks moves fault (unfit_size is bad) fit = bad fit.size
unfit k benefits marks moves fault (unfit_benefit size bad) fit = bad.first.outside (fit.amounts _ bad.first.inside)
unfit k benefits marks moves fault (unfit_mark size amounts bad) fit = bad.first.outside (fit.signs _ bad.first.inside)
unfit k benefits marks moves fault (unfit_move size amounts signs bad) fit = bad.first.outside (fit.transfers _ bad.first.inside)
