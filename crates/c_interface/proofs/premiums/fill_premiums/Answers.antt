use Rattle.std.proofs.Common.{◌≡◌, w64, to_z, of_z, arith, rules}
use Rattle.basis.specs.TransitionTables.{transition_table}
use Rattle.plan.specs.PaymentTables.{payment_table}
use Rattle.c_interface.specs.Outcomes.{PremiumFor, entry}
use Rattle.c_interface.proofs.Places.{one_more}
use Rattle.c_interface.proofs.premiums.fill_premiums.Goals as goal

pub loop-k-preserved : goal.loop-k-preserved
loop-k-preserved c =
    let bound = entry c.args.bounds.now c.loop-k.k in
    let read : to_z w64 (of_z w64 bound) ≡ bound = search rules in
    let written : to_z w64 (of_z w64 c.entry_for.result) ≡ c.entry_for.result = search rules in
    let here : PremiumFor (transition_table c.args.tables.now.basis) (payment_table c.args.tables.now.plan) c.args.state c.args.year bound (to_z w64 (of_z w64 c.entry_for.result)) = rw written (rw read at c.entry_for.ensures) in
    one_more (λ p. PremiumFor (transition_table c.args.tables.now.basis) (payment_table c.args.tables.now.plan) c.args.state c.args.year (entry c.args.bounds.now p))
    c.loop-k.premiums c.loop-k.k (to_z w64 (of_z w64 c.entry_for.result)) (omega arith) c.loop-k.invariant here

pub returns : goal.returns
returns c = λ k h. c.loop-k.invariant k (omega arith)
