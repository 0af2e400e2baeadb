use Rattle.std.proofs.Common.{◌≡◌, rules, refl, arith, w64, to_z, of_z}
use Rattle.units.specs.Faults.{entry_fault}
use Rattle.units.specs.declared.fault.Layer.TheVariants.{Contract}
use Rattle.units.specs.Rules.{rule_number}
use Rattle.contract.specs.ContractStates.{basis_of, standing, year_told}
use Rattle.contract.specs.Ledgers.{Close}
use Rattle.contract.specs.Standings.{moved, reserve_at}
use Rattle.contract.proofs.Entries.{refused_there, closed_there}
use Rattle.contract.proofs.Promised.{promised_in_the_mean}
use Rattle.contract.proofs.Years.{reserve_of_year}
use Rattle.contract.proofs.contract.Contract.close.Goals as goal

pub returns-in-Err-clause-entry : goal.returns-in-Err-clause-entry
returns-in-Err-clause-entry g c =
    let k = c.args.self.now in
    let kept : to_z w64 (of_z w64 c.args.rate) ≡ c.args.rate = Prim.search rules in
    let told : c.fault.result ≡ entry_fault (rule_number c.in-Err.rule) Contract k.year k.state = rw c.in-Err.ensures.1 at c.fault.ensures in
    record {
      same_basis = refl;
      entry = refused_there (basis_of k) (standing k) (Close c.args.end c.args.rate) (rule_number c.in-Err.rule) c.fault.result told (rw kept at c.in-Err.ensures.0);
    }

pub returns-in-Err-clause-unchanged : goal.returns-in-Err-clause-unchanged
returns-in-Err-clause-unchanged g c = refl

pub returns-in-Err-clause-promise : goal.returns-in-Err-clause-promise
returns-in-Err-clause-promise g c = promised_in_the_mean (basis_of c.args.self.now) (g.met.B.Basis.lawful c.args.self.now.basis.now)

pub closed_year-closed-requires-clause-may : goal.closed_year-closed-requires-clause-may
closed_year-closed-requires-clause-may g c = c.in-Ok.ensures.0

pub invariant_of-self : goal.invariant_of-self
invariant_of-self g c =
    let k = c.args.self.now in
    let may = c.in-Ok.ensures.0 in
    let closed = c.closed_year-closed.result in
    let kept : to_z w64 (of_z w64 closed.reserve) ≡ closed.reserve = Prim.search rules in
    let stays : to_z w64 (of_z w64 closed.reserve) ≡ reserve_at (basis_of k) (moved (standing k) c.args.end) = rw kept (reserve_of_year (basis_of k) (standing k) c.args.end _ (year_told closed) c.closed_year-closed.ensures) in
    record {
      state_in_basis = may.in_basis;
      year_in_basis = omega (arith, may.year_left);
      counted = omega (arith, may.number_left);
      reserved = stays;
    }

pub returns-clause-entry : goal.returns-clause-entry
returns-clause-entry g c =
    let k = c.args.self.now in
    let kept : to_z w64 (of_z w64 c.args.rate) ≡ c.args.rate = Prim.search rules in
    record {
      same_basis = refl;
      entry = closed_there (basis_of k) (standing k) c.args.end c.args.rate (rw kept at c.in-Ok.ensures.0) (year_told c.closed_year-closed.result) (rw kept at c.closed_year-closed.ensures);
    }

pub returns-clause-moves : goal.returns-clause-moves
returns-clause-moves g c = refl

pub returns-clause-promise : goal.returns-clause-promise
returns-clause-promise g c = promised_in_the_mean (basis_of c.args.self.now) (g.met.B.Basis.lawful c.args.self.now.basis.now)
