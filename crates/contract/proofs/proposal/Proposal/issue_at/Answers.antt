use Rattle.std.proofs.Common.{rules, arith}
use Rattle.std.proofs.lemmas.Int.{ints}
use Rattle.contract.proofs.proposal.Proposal.issue_at.Goals as goal

pub returns : goal.returns
returns g c = record {
  same_basis = Prim.search rules;
  are_terms = record {
    start_in_basis = c.args.self.start_in_basis;
    deposit_range = record { low = omega (arith, ints); high = omega (arith, ints, c.args.self.deposit.range) };
    premium_range = c.args.priced.premium.range;
  };
  stands = Prim.search rules;
  premium = Prim.search rules;
  reserve = Prim.search rules;
  opening = Prim.search rules;
}
