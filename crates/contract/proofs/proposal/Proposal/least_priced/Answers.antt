use Rattle.std.proofs.Common.{◌≡◌, rules, pos, MatchResult, subst, w64, to_z}
use Rattle.valuation.specs.Premiums.{LeastPremium, NoPremium}
use Rattle.contract.specs.Proposals.{basis_proposed}
use Rattle.contract.proofs.proposal.Proposal.least_priced.Goals as goal

pub returns-clause-least : goal.returns-clause-least
returns-clause-least g c =
    let o = c.args.self.now in
    let plan = g.P.Plan.payments o.plan in
    let bound : to_z w64 c.ticks-deposit.result ≡ pos o.deposit.ticks = Prim.search rules in
    subst (λ z. MatchResult c.price.result (λ priced. LeastPremium (basis_proposed o) plan o.start 0 z priced.premium.ticks) (NoPremium (basis_proposed o) plan o.start 0 z)) bound c.price.ensures.least

pub returns-clause-reserve : goal.returns-clause-reserve
returns-clause-reserve g c = c.price.ensures.reserve
