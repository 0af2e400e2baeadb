use Rattle.std.proofs.Common.{◌≡◌, rules, refl, Err}
use Rattle.contract.specs.Proposals.{NoneOf}
use Rattle.contract.proofs.proposal.Proposal.price.Goals as goal

pub returns-in_err-premium : goal.returns-in_err-premium
returns-in_err-premium g c =
    let none : NoneOf c.args.self.now c.in_err-premium.field-0.0 = Prim.search rules in
    let outcome : c.from_residual.result ≡ Err c.in_err-premium.field-0.0 = Prim.search rules in
    rw outcome (none, record { told = none.told; unchanged = refl })
