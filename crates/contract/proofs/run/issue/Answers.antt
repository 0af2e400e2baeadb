use Rattle.std.proofs.Common.{◌≡◌, rules, ap, Err, w64, to_z, of_z}
use Rattle.contract.specs.Standings.{NotIssued}
use Rattle.contract.proofs.Issuing.{not_placed, not_deposited, issued_at_least_premium}
use Rattle.contract.proofs.Promised.{promised_in_the_mean}
use Rattle.contract.proofs.run.issue.Goals as goal

pub returns-in_err-place-clause-answer : goal.returns-in_err-place-clause-answer
returns-in_err-place-clause-answer g c =
    let at : c.new-proposal.result.start ≡ 0 = ap (λ x. x.start) c.new-proposal.ensures.terms in
    let refused : NotIssued (g.B.Basis.meaning c.args.basis.now) (g.P.Plan.payments c.args.plan) c.args.start c.args.deposit c.in_err-place.field-0.0 = not_placed _ _ _ _ _ c.new-proposal.result.start at (Prim.search rules) (Prim.search rules) in
    let outcome : c.from_residual.result ≡ Err c.in_err-place.field-0.0 = Prim.search rules in
    rw outcome refused

pub returns-in_err-deposit-clause-answer : goal.returns-in_err-deposit-clause-answer
returns-in_err-deposit-clause-answer g c =
    let placed = c.in_ok-place.ensures.1 in
    let at : c.place.new.self.start ≡ c.args.start = ap (λ x. x.start) placed.takes in
    let refused : NotIssued (g.B.Basis.meaning c.args.basis.now) (g.P.Plan.payments c.args.plan) c.args.start c.args.deposit c.in_err-deposit.field-0.0 = not_deposited _ _ _ _ _ c.place.new.self.start at (Prim.search rules) (Prim.search rules) (Prim.search rules) in
    let outcome : c.from_residual-in_err-deposit.result ≡ Err c.in_err-deposit.field-0.0 = Prim.search rules in
    rw outcome refused

pub returns-clause-answer : goal.returns-clause-answer
returns-clause-answer g c =
    let back : to_z w64 (of_z w64 c.args.deposit) ≡ c.args.deposit = Prim.search rules in
    issued_at_least_premium c.new-proposal.result c.place.new.self c.deposit.new.self c.args.basis.now c.args.plan c.args.start c.args.deposit
    (Prim.search rules) c.new-proposal.ensures.terms c.in_ok-place.ensures.1 (rw back at c.in_ok-deposit.ensures.1) (Prim.search rules) (Prim.search rules) c.issue_at_least_premium.result c.issue_at_least_premium.ensures

pub returns-in_err-place-clause-promise : goal.returns-in_err-place-clause-promise
returns-in_err-place-clause-promise g c = promised_in_the_mean (g.B.Basis.meaning c.args.basis.now) (g.met.B.Basis.lawful c.args.basis.now)

pub returns-in_err-deposit-clause-promise : goal.returns-in_err-deposit-clause-promise
returns-in_err-deposit-clause-promise g c = promised_in_the_mean (g.B.Basis.meaning c.args.basis.now) (g.met.B.Basis.lawful c.args.basis.now)

pub returns-clause-promise : goal.returns-clause-promise
returns-clause-promise g c = promised_in_the_mean (g.B.Basis.meaning c.args.basis.now) (g.met.B.Basis.lawful c.args.basis.now)
