use Rattle.std.proofs.Common.{◌≡◌, arith, refl, w64, to_z, of_z}
use Rattle.std.proofs.lemmas.Int.{ints, to_z-of_z}
use Rattle.contract.specs.Closings.{MayClose}
use Rattle.contract.specs.ContractStates.{basis_of, standing}
use Rattle.contract.proofs.Objections.{first_no_year, first_no_state, first_rate_low, first_rate_high, first_no_move, first_no_number}
use Rattle.contract.proofs.Years.{share_of_move}
use Rattle.contract.proofs.contract.Contract.closing_move.Goals as goal

pub returns-then-self-years : goal.returns-then-self-years
returns-then-self-years g c = (first_no_year (basis_of c.args.self.now) (standing c.args.self.now) c.args.end c.args.rate (rw c.years.ensures at c.if-self-years.true), refl)

pub returns-then-end-states : goal.returns-then-end-states
returns-then-end-states g c = (first_no_state (basis_of c.args.self.now) (standing c.args.self.now) c.args.end c.args.rate (rw c.years.ensures at c.if-self-years.false) (rw c.states.ensures at c.if-end-states.true), refl)

pub returns-then-rate : goal.returns-then-rate
returns-then-rate g c =
    let kept : to_z w64 (of_z w64 c.args.rate) ≡ c.args.rate = to_z-of_z _ _ c.ranges.rate in
    (first_rate_low (basis_of c.args.self.now) (standing c.args.self.now) c.args.end c.args.rate (rw c.years.ensures at c.if-self-years.false) (rw c.states.ensures at c.if-end-states.false) (omega (arith, ints, rw kept at c.if-rate.true)), refl)

pub returns-then-rate-gt-MOST_RATE : goal.returns-then-rate-gt-MOST_RATE
returns-then-rate-gt-MOST_RATE g c =
    let kept : to_z w64 (of_z w64 c.args.rate) ≡ c.args.rate = to_z-of_z _ _ c.ranges.rate in
    (first_rate_high (basis_of c.args.self.now) (standing c.args.self.now) c.args.end c.args.rate (rw c.years.ensures at c.if-self-years.false) (rw c.states.ensures at c.if-end-states.false) (omega (arith, ints, rw kept at c.if-rate-gt-MOST_RATE.true)), refl)

pub returns-in_default : goal.returns-in_default
returns-in_default g c =
    let kept : to_z w64 (of_z w64 c.args.rate) ≡ c.args.rate = to_z-of_z _ _ c.ranges.rate in
    (first_no_move (basis_of c.args.self.now) (standing c.args.self.now) c.args.end c.args.rate (rw c.years.ensures at c.if-self-years.false) (rw c.states.ensures at c.if-end-states.false) (omega (arith, ints, rw kept at c.if-rate.false)) (omega (arith, ints, rw kept at c.if-rate-gt-MOST_RATE.false)) c.in_default.ensures, refl)

pub returns-then-self-ge-LAST_NUMBER : goal.returns-then-self-ge-LAST_NUMBER
returns-then-self-ge-LAST_NUMBER g c =
    let kept : to_z w64 (of_z w64 c.args.rate) ≡ c.args.rate = to_z-of_z _ _ c.ranges.rate in
    (first_no_number (basis_of c.args.self.now) (standing c.args.self.now) c.args.end c.args.rate (rw c.years.ensures at c.if-self-years.false) (rw c.states.ensures at c.if-end-states.false) (omega (arith, ints, rw kept at c.if-rate.false)) (omega (arith, ints, rw kept at c.if-rate-gt-MOST_RATE.false)) (share_of_move c.in-Some.step c.args.self.now.basis.now c.args.self.now.state c.args.end c.args.self.now.year c.in-Some.ensures) c.if-self-ge-LAST_NUMBER.true, refl)

pub returns : goal.returns
returns g c =
    let kept : to_z w64 (of_z w64 c.args.rate) ≡ c.args.rate = to_z-of_z _ _ c.ranges.rate in
    let may : MayClose (basis_of c.args.self.now) (standing c.args.self.now) c.args.end c.args.rate = record {
      year_left = rw c.years.ensures at c.if-self-years.false;
      in_basis = rw c.states.ensures at c.if-end-states.false;
      rate_low = omega (arith, ints, rw kept at c.if-rate.false);
      rate_high = omega (arith, ints, rw kept at c.if-rate-gt-MOST_RATE.false);
      may_move = share_of_move c.in-Some.step c.args.self.now.basis.now c.args.self.now.state c.args.end c.args.self.now.year c.in-Some.ensures;
      number_left = c.if-self-ge-LAST_NUMBER.false;
    } in
    (may, c.in-Some.ensures)
