use Rattle.std.proofs.Common.{◌≡◌, rules, refl, ◌+◌, ◌<◌, subst, Err, length, vec_items, vec_len, vec_capacity, w64, to_z, of_z}
use Rattle.units.specs.declared.failure.Failure.TheVariants.{Refused, NoMemory}
use Rattle.contract.specs.Calls.{Goes}
use Rattle.contract.specs.Cases.{not_issued, no_memory}
use Rattle.contract.specs.Standings.{NotIssued}
use Rattle.contract.proofs.Promised.{promised}
use Rattle.contract.proofs.Running.{is_run}
use Rattle.contract.proofs.WorkedRun.{worked_run}
use Rattle.contract.proofs.run.run.Goals as goal

pub returns-in_err-contract-clause-answer : goal.returns-in_err-contract-clause-answer
returns-in_err-contract-clause-answer g c =
    let refused : NotIssued (g.B.Basis.meaning c.args.basis.now) (g.P.Plan.payments c.args.case.plan) c.args.case.start c.args.case.deposit c.in_err-contract.field-0.0 = Prim.search rules in
    let outcome : c.from_residual.result ≡ Err (Refused c.in_err-contract.field-0.0) = Prim.search rules in
    rw outcome (not_issued refused)

pub returns-in_err-contract-clause-promise : goal.returns-in_err-contract-clause-promise
returns-in_err-contract-clause-promise g c = promised g.V.Valuation.ends (g.V.Valuation.operations c.args.valuation.now) (g.met.V.Valuation.ordered c.args.valuation.now) (g.B.Basis.meaning c.args.basis.now) (g.met.B.Basis.lawful c.args.basis.now)

pub returns-in_err-reserve-clause-answer : goal.returns-in_err-reserve-clause-answer
returns-in_err-reserve-clause-answer g c =
    let back : to_z w64 (of_z w64 c.args.case.deposit) ≡ c.args.case.deposit = Prim.search rules in
    let full : vec_capacity c.args.answers.now < vec_len c.args.answers.now + length (vec_items c.args.case.requests) = Prim.search rules in
    let outcome : c.from_residual-in_err-reserve.result ≡ Err NoMemory = Prim.search rules in
    rw outcome (no_memory (rw back at c.in_ok-contract.ensures.answer).issued_at full)

pub returns-in_err-reserve-clause-promise : goal.returns-in_err-reserve-clause-promise
returns-in_err-reserve-clause-promise g c = promised g.V.Valuation.ends (g.V.Valuation.operations c.args.valuation.now) (g.met.V.Valuation.ordered c.args.valuation.now) (g.B.Basis.meaning c.args.basis.now) (g.met.B.Basis.lawful c.args.basis.now)

pub returns-clause-answer : goal.returns-clause-answer
returns-clause-answer g c =
    let v = g.V.Valuation.operations c.args.valuation.now in
    let back : to_z w64 (of_z w64 c.args.case.deposit) ≡ c.args.case.deposit = Prim.search rules in
    let before : vec_items c.reserve.new.self ≡ vec_items c.args.answers.now = c.reserve.ensures.items in
    let goes : Goes v c.in_ok-contract.field-0.contract (vec_items c.args.case.requests) (vec_items c.args.answers.now) (vec_items c.answer_all.new.answers) c.answer_all.new.contract =
    subst (λ xs. Goes v c.in_ok-contract.field-0.contract (vec_items c.args.case.requests) xs (vec_items c.answer_all.new.answers) c.answer_all.new.contract) before c.answer_all.ensures in
    is_run v c.args.basis.now (g.met.B.Basis.lawful c.args.basis.now) c.args.case (vec_items c.args.answers.now) (vec_items c.answer_all.new.answers) c.in_ok-contract.field-0 c.answer_all.new.contract _ (rw back at c.in_ok-contract.ensures.answer) refl (Prim.search rules) goes c.end_of.ensures

pub returns-clause-promise : goal.returns-clause-promise
returns-clause-promise g c = promised g.V.Valuation.ends (g.V.Valuation.operations c.args.valuation.now) (g.met.V.Valuation.ordered c.args.valuation.now) (g.B.Basis.meaning c.args.basis.now) (g.met.B.Basis.lawful c.args.basis.now)

pub returns-in_err-contract-clause-worked : goal.returns-in_err-contract-clause-worked
returns-in_err-contract-clause-worked g c = worked_run

pub returns-in_err-reserve-clause-worked : goal.returns-in_err-reserve-clause-worked
returns-in_err-reserve-clause-worked g c = worked_run

pub returns-clause-worked : goal.returns-clause-worked
returns-clause-worked g c = worked_run
