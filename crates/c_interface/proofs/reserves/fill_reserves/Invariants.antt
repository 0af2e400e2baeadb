use Rattle.basis.specs.TransitionTables.{transition_table}
use Rattle.plan.specs.PaymentTables.{payment_table}
use Rattle.valuation.specs.Reserves.{reserve}
use Rattle.c_interface.specs.Outcomes.{ValuesBelow}
use Rattle.c_interface.proofs.reserves.fill_reserves.Given as goal

abbrev pub invariant-loop-k : goal.invariant-loop-k
invariant-loop-k l = ValuesBelow l.k (reserve (transition_table l.tables.basis) (payment_table l.tables.plan)) l.state l.year l.premiums l.reserves
