use Rattle.std.proofs.Common.{◌≡◌, ℕ, w64, to_z, of_z, ap, ◌∙◌, subst, unsigned_abs, arith, rules}
use Rattle.basis.specs.TransitionTables.{transition_table}
use Rattle.plan.specs.PaymentTables.{payment_table}
use Rattle.valuation.specs.Reserves.{reserve}
use Rattle.c_interface.specs.Outcomes.{entry, premium_at}
use Rattle.c_interface.proofs.Places.{one_more}
use Rattle.c_interface.proofs.reserves.fill_reserves.Goals as goal

pub loop-k-preserved : goal.loop-k-preserved
loop-k-preserved c =
    let charged = entry c.args.premiums.now c.loop-k.k in
    let value = λ (premium : ℕ). reserve (transition_table c.args.tables.now.basis) (payment_table c.args.tables.now.plan) premium c.args.state c.args.year in
    let read : to_z w64 (of_z w64 charged) ≡ charged = search rules in
    let written : to_z w64 (of_z w64 c.reserve.result) ≡ c.reserve.result = search rules in
    let here = subst (λ p. to_z w64 (of_z w64 c.reserve.result) ≡ value p) (ap unsigned_abs (c.premium.ensures ∙ read)) (rw written c.reserve.ensures.value) in
    one_more (λ k z. z ≡ value (premium_at c.args.premiums.now k))
    c.loop-k.reserves c.loop-k.k (to_z w64 (of_z w64 c.reserve.result)) (omega arith) c.loop-k.invariant here

pub returns : goal.returns
returns c = λ k h. c.loop-k.invariant k (omega arith)
