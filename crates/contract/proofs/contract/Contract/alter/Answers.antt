use Rattle.std.proofs.Common.{◌≡◌, rules, refl, ◌+◌, ◌-ℤ◌, arith, Err, w64, to_z, of_z}
use Rattle.valuation.specs.Premiums.{NoPremium}
use Rattle.contract.specs.ContractStates.{basis_of, standing}
use Rattle.contract.specs.Standings.{reserve_at, altered}
use Rattle.contract.proofs.Entries.{no_premium_there, no_number_there, altered_there}
use Rattle.contract.proofs.contract.Contract.alter.Goals as goal

pub returns-in_err-priced-clause-entry : goal.returns-in_err-priced-clause-entry
returns-in_err-priced-clause-entry g c =
    let k = c.args.self.now in
    let plan = g.P.Plan.payments c.args.plan in
    let before = c.reserve-before.result in
    let fault = c.in_err-priced.field-0.0 in
    let bound : to_z w64 (of_z w64 before) ≡ before = Prim.search rules in
    let refuses : c.price.result ≡ Err fault = c.in_err-priced.was in
    let none : NoPremium (basis_of k) plan k.state k.year (to_z w64 (of_z w64 before)) fault = rw refuses at c.price.ensures.least in
    let outcome : c.from_residual.result ≡ Err fault = Prim.search rules in
    rw outcome (record { same_basis = refl; entry = no_premium_there (basis_of k) (standing k) plan before c.reserve-before.ensures.value fault (rw bound at none) })

pub returns-then-self-ge-LAST_NUMBER-clause-entry : goal.returns-then-self-ge-LAST_NUMBER-clause-entry
returns-then-self-ge-LAST_NUMBER-clause-entry g c =
    let before = c.reserve-before.result in
    let bound : to_z w64 (of_z w64 before) ≡ before = Prim.search rules in
    record {
      same_basis = refl;
      entry = no_number_there (basis_of c.args.self.now) (standing c.args.self.now) (g.P.Plan.payments c.args.plan) before c.reserve-before.ensures.value c.in_ok-priced.priced.premium.ticks (rw bound at c.in_ok-priced.ensures.least) c.fault.result c.fault.ensures c.if-self-ge-LAST_NUMBER.true;
    }

pub returns-then-self-ge-LAST_NUMBER-clause-unchanged : goal.returns-then-self-ge-LAST_NUMBER-clause-unchanged
returns-then-self-ge-LAST_NUMBER-clause-unchanged g c = refl

pub invariant_of-self : goal.invariant_of-self
invariant_of-self g c =
    let k = c.args.self.now in
    let priced = c.in_ok-priced.priced in
    let kept : to_z w64 (of_z w64 priced.reserve) ≡ priced.reserve = Prim.search rules in
    let stays : to_z w64 (of_z w64 priced.reserve) ≡ reserve_at (basis_of k) (altered (standing k) (g.P.Plan.payments c.args.plan) priced.premium.ticks) = rw kept c.in_ok-priced.ensures.reserve in
    record {
      state_in_basis = k.state_in_basis;
      year_in_basis = k.year_in_basis;
      counted = omega (arith, c.if-self-ge-LAST_NUMBER.false);
      reserved = stays;
    }

pub returns-clause-entry : goal.returns-clause-entry
returns-clause-entry g c =
    let k = c.args.self.now in
    let before = c.reserve-before.result in
    let priced = c.in_ok-priced.priced in
    let bound : to_z w64 (of_z w64 before) ≡ before = Prim.search rules in
    let kept : to_z w64 (of_z w64 priced.reserve) ≡ priced.reserve = Prim.search rules in
    let stays : to_z w64 (of_z w64 priced.reserve) ≡ reserve_at (basis_of k) (altered (standing k) (g.P.Plan.payments c.args.plan) priced.premium.ticks) = rw kept c.in_ok-priced.ensures.reserve in
    let difference : to_z w64 (of_z w64 (to_z w64 (of_z w64 before) -ℤ to_z w64 (of_z w64 priced.reserve))) ≡ before -ℤ to_z w64 (of_z w64 priced.reserve) = Prim.search rules in
    record {
      same_basis = refl;
      entry = altered_there (basis_of k) (standing k) (g.P.Plan.payments c.args.plan) before c.reserve-before.ensures.value priced.premium.ticks (rw bound at c.in_ok-priced.ensures.least) c.if-self-ge-LAST_NUMBER.false (k.number + 1) _ _ refl difference stays;
    }

pub returns-clause-alters : goal.returns-clause-alters
returns-clause-alters g c = refl

pub returns-clause-promise : goal.returns-clause-promise
returns-clause-promise g c = c.reserve-before.ensures.promise
