use Rattle.basis.specs.TransitionTables.{transition_table}
use Rattle.plan.specs.PaymentTables.{payment_table}
use Rattle.c_interface.specs.Outcomes.{PremiumsBelow}
use Rattle.c_interface.proofs.premiums.fill_premiums.Given as goal

abbrev pub invariant-loop-k : goal.invariant-loop-k
invariant-loop-k l = PremiumsBelow (transition_table l.tables.basis) (payment_table l.tables.plan) l.state l.year l.k l.bounds l.premiums
