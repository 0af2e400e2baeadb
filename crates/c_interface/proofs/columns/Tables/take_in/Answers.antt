use Rattle.c_interface.proofs.Tables.{basis_is, plan_is}
use Rattle.c_interface.proofs.columns.Tables.take_in.Goals as goal

pub returns-clause-outcome : goal.returns-clause-outcome
returns-clause-outcome c = let basis = c.in_ok-take_in.ensures.outcome in let plan = c.in_ok-take_in-2.ensures.outcome in record {
  fit = record { basis = basis.0; plan = plan.0 };
  basis = basis_is _ _ _ _ basis.1;
  plan = plan_is _ _ _ _ _ plan.1;
}
