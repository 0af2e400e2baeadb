use Rattle.std.proofs.Common.{◌≡◌, rules, w64, to_z, of_z}
use Rattle.contract.specs.Proposals.{basis_proposed, bearing, reserve_proposed}
use Rattle.contract.proofs.Promised.{promised_in_the_mean}
use Rattle.contract.proofs.proposal.Proposal.issue.Goals as goal

pub issue_at-requires : goal.issue_at-requires
issue_at-requires g c =
    let kept : to_z w64 (of_z w64 c.reserve-reserve.result) ≡ c.reserve-reserve.result = Prim.search rules in
    let reserved : to_z w64 (of_z w64 c.reserve-reserve.result) ≡ reserve_proposed (bearing c.args.self.premium c.args.self) = rw kept c.reserve-reserve.ensures.value in
    reserved

pub returns-clause-promise : goal.returns-clause-promise
returns-clause-promise g c = promised_in_the_mean (basis_proposed c.args.self) (g.met.B.Basis.lawful c.args.self.basis.now)
