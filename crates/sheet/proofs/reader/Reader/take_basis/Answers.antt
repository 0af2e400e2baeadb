use Rattle.std.proofs.Common.{◌≡◌, ◌==◌, ◌*◌, ◌&&◌, true, false, Err, Some, nat_le, refl, ap, sym, rules, arith}
use Rattle.std.proofs.lemmas.Bool.{le-leb, lt-leb, eq-eqb, ne_eqb, and_left, and_right}
use Rattle.std.specs.Str.Parse.{digits_value}
use Rattle.sheet.proofs.Checked.{is_in, is_out, kept_number, told_at}
use Rattle.sheet.proofs.Held.{none_held}
use Rattle.sheet.specs.Fields.{bytes_of}
use Rattle.sheet.specs.Numerals.{is_number}
use Rattle.sheet.proofs.reader.Reader.take_basis.Goals as goal
use Rattle.sheet.proofs.reader.Reader.take_basis.Goals.{then-n-columns-via-then-n-columns, then-n-columns-via-else-n-columns+then-n-m}

pub returns-then-self-ne0 : goal.returns-then-self-ne0
returns-then-self-ne0 c =
    let begun : (c.args.self.now.years == 0) ≡ false = ne_eqb _ _ c.if-self-ne0.true in
    rw begun (ap Some (sym c.fault.ensures))

pub returns-in_err-m : goal.returns-in_err-m
returns-in_err-m c =
    let none : is_number (bytes_of c.args.states) ≡ false = search rules in
    let first : (c.args.self.now.years == 0) ≡ true = eq-eqb _ _ c.if-self-ne0.false in
    let told : c.from_residual.result ≡ Err c.in_err-m.field-0.0 = search rules in
    rw (told, first, none) (told_at 4 c.args.states _ _ c.requires.0 c.in_err-m.ensures.value.1)

pub returns-in_err-n : goal.returns-in_err-n
returns-in_err-n c =
    let first : (c.args.self.now.years == 0) ≡ true = eq-eqb _ _ c.if-self-ne0.false in
    let told : c.from_residual-in_err-n.result ≡ Err c.in_err-n.field-0.0 = search rules in
    rw (told, first, c.in_ok-m.ensures.rule.0, c.in_err-n.ensures.rule) (told_at 4 c.args.years _ _ c.requires.1.0 c.in_err-n.ensures.value.1)

pub returns-in_err-m-2 : goal.returns-in_err-m-2
returns-in_err-m-2 c =
    let first : (c.args.self.now.years == 0) ≡ true = eq-eqb _ _ c.if-self-ne0.false in
    let states = is_out c.args.states 2 8 _ c.in_ok-m.ensures.rule c.in_err-m-2.ensures.0 in
    let told : c.from_residual-in_err-m-2.result ≡ Err c.in_err-m-2.field-0.0 = search rules in
    rw (told, first, c.in_ok-m.ensures.rule.0, c.in_ok-n.ensures.rule.0, states) (told_at 5 c.args.states _ _ c.requires.0 c.in_err-m-2.ensures.1)

pub returns-in_err-n-2 : goal.returns-in_err-n-2
returns-in_err-n-2 c =
    let first : (c.args.self.now.years == 0) ≡ true = eq-eqb _ _ c.if-self-ne0.false in
    let states = is_in c.args.states _ _ _ _ c.in_ok-m.ensures.rule c.in_ok-m-2.ensures in
    let years = is_out c.args.years 1 120 _ c.in_ok-n.ensures.rule c.in_err-n-2.ensures.0 in
    let told : c.from_residual-in_err-n-2.result ≡ Err c.in_err-n-2.field-0.0 = search rules in
    rw (told, first, c.in_ok-m.ensures.rule.0, c.in_ok-n.ensures.rule.0, states, years) (told_at 5 c.args.years _ _ c.requires.1.0 c.in_err-n-2.ensures.1)

pub returns-then-n-columns : goal.returns-then-n-columns
returns-then-n-columns c =
    let first : (c.args.self.now.years == 0) ≡ true = eq-eqb _ _ c.if-self-ne0.false in
    let states = is_in c.args.states _ _ _ _ c.in_ok-m.ensures.rule c.in_ok-m-2.ensures in
    let years = is_in c.args.years _ _ _ _ c.in_ok-n.ensures.rule c.in_ok-n-2.ensures in
    let m = kept_number c.args.states _ _ _ _ c.in_ok-m.ensures.rule c.in_ok-m-2.ensures in
    let n = kept_number c.args.years _ _ _ _ c.in_ok-n.ensures.rule c.in_ok-n-2.ensures in
    let room : (nat_le (digits_value 10 (bytes_of c.args.years)) c.args.columns.factors && nat_le (digits_value 10 (bytes_of c.args.years) * digits_value 10 (bytes_of c.args.states) * digits_value 10 (bytes_of c.args.states)) c.args.columns.shares) ≡ false =
    elim c.then-n-columns.branch [
      | then-n-columns-via-then-n-columns w ↦
          let much : nat_le (digits_value 10 (bytes_of c.args.years)) c.args.columns.factors ≡ false = lt-leb _ _ (rw (← n) w.if-n-columns.true) in
          and_left _ _ much
      | then-n-columns-via-else-n-columns+then-n-m w ↦
          let much : nat_le (digits_value 10 (bytes_of c.args.years) * digits_value 10 (bytes_of c.args.states) * digits_value 10 (bytes_of c.args.states)) c.args.columns.shares ≡ false = lt-leb _ _ (rw (← n, ← m) w.if-n-m.true) in
          and_right _ _ much
    ] in
    rw (first, c.in_ok-m.ensures.rule.0, c.in_ok-n.ensures.rule.0, states, years, room) (ap Some (sym c.fault-then-n-columns.ensures))

pub invariant_of-self : goal.invariant_of-self
invariant_of-self c =
    let r = c.args.self.now in
    let none = none_held r c.if-self-ne0.false in
    record {
      least_states = λ _. c.in_ok-m-2.ensures.1;
      most_states = c.in_ok-m-2.ensures.2;
      most_years = c.in_ok-n-2.ensures.2;
      years_come = omega (arith, none.0);
      places = omega (arith, none.1);
      noughts = r.noughts;
    }

pub returns : goal.returns
returns c =
    let first : (c.args.self.now.years == 0) ≡ true = eq-eqb _ _ c.if-self-ne0.false in
    let states = is_in c.args.states _ _ _ _ c.in_ok-m.ensures.rule c.in_ok-m-2.ensures in
    let years = is_in c.args.years _ _ _ _ c.in_ok-n.ensures.rule c.in_ok-n-2.ensures in
    let m = kept_number c.args.states _ _ _ _ c.in_ok-m.ensures.rule c.in_ok-m-2.ensures in
    let n = kept_number c.args.years _ _ _ _ c.in_ok-n.ensures.rule c.in_ok-n-2.ensures in
    let none = none_held c.args.self.now c.if-self-ne0.false in
    let factors : nat_le (digits_value 10 (bytes_of c.args.years)) c.args.columns.factors ≡ true = le-leb _ _ (rw (← n) c.if-n-columns.false) in
    let shares : nat_le (digits_value 10 (bytes_of c.args.years) * digits_value 10 (bytes_of c.args.states) * digits_value 10 (bytes_of c.args.states)) c.args.columns.shares ≡ true = le-leb _ _ (rw (← n, ← m) c.if-n-m.false) in
    (rw (first, c.in_ok-m.ensures.rule.0, c.in_ok-n.ensures.rule.0, states, years, factors, shares) refl, rw (none.0, none.1, m, n) refl)
