use Rattle.std.proofs.Common.{◌≡◌, ◌==◌, ◌+◌, ◌-◌, ◌∷◌, [], ◌++◌, true, false, Err, Some, length, take, set, nat_lt, refl, ap, sym, ◌∙◌, rules, arith}
use Rattle.std.proofs.lemmas.Bool.{lt-ltb, eq-eqb, ne_eqb}
use Rattle.std.proofs.lemmas.List.{length-take-le, take_more_set}
use Rattle.std.specs.Str.Parse.{digits_value}
use Rattle.units.specs.Ranges.{million}
use Rattle.sheet.proofs.Checked.{is_in, is_out, kept_number, told_at}
use Rattle.sheet.specs.Fields.{bytes_of}
use Rattle.sheet.proofs.reader.Reader.take_year.Goals as goal

pub returns-in_err-t : goal.returns-in_err-t
returns-in_err-t c =
    let r = c.args.self.now in
    let come : length (take r.come r.factors) ≡ r.come = length-take-le r.come r.factors (omega arith) in
    let stands : nat_lt (length (take r.come r.factors)) r.years ≡ true = lt-ltb _ _ (omega (arith, come)) in
    let told : c.from_residual.result ≡ Err c.in_err-t.field-0.0 = search rules in
    rw (told, stands, c.in_err-t.ensures.rule) (told_at 4 c.args.year _ _ c.requires.0 c.in_err-t.ensures.value.1)

pub returns-in_err-v : goal.returns-in_err-v
returns-in_err-v c =
    let r = c.args.self.now in
    let come : length (take r.come r.factors) ≡ r.come = length-take-le r.come r.factors (omega arith) in
    let stands : nat_lt (length (take r.come r.factors)) r.years ≡ true = lt-ltb _ _ (omega (arith, come)) in
    let told : c.from_residual-in_err-v.result ≡ Err c.in_err-v.field-0.0 = search rules in
    rw (told, stands, c.in_ok-t.ensures.rule.0, c.in_err-v.ensures.rule) (told_at 4 c.args.factor _ _ c.requires.1.0 c.in_err-v.ensures.value.1)

pub returns-in_err-t-2 : goal.returns-in_err-t-2
returns-in_err-t-2 c =
    let r = c.args.self.now in
    let come : length (take r.come r.factors) ≡ r.come = length-take-le r.come r.factors (omega arith) in
    let stands : nat_lt (length (take r.come r.factors)) r.years ≡ true = lt-ltb _ _ (omega (arith, come)) in
    let year = is_out c.args.year 0 (r.years - 1) _ c.in_ok-t.ensures.rule c.in_err-t-2.ensures.0 in
    let told : c.from_residual-in_err-t-2.result ≡ Err c.in_err-t-2.field-0.0 = search rules in
    rw (told, stands, c.in_ok-t.ensures.rule.0, c.in_ok-v.ensures.rule.0, year) (told_at 5 c.args.year _ _ c.requires.0 c.in_err-t-2.ensures.1)

pub returns-in_err-v-2 : goal.returns-in_err-v-2
returns-in_err-v-2 c =
    let r = c.args.self.now in
    let come : length (take r.come r.factors) ≡ r.come = length-take-le r.come r.factors (omega arith) in
    let stands : nat_lt (length (take r.come r.factors)) r.years ≡ true = lt-ltb _ _ (omega (arith, come)) in
    let year = is_in c.args.year _ _ _ _ c.in_ok-t.ensures.rule c.in_ok-t-2.ensures in
    let factor = is_out c.args.factor 1 million _ c.in_ok-v.ensures.rule c.in_err-v-2.ensures.0 in
    let told : c.from_residual-in_err-v-2.result ≡ Err c.in_err-v-2.field-0.0 = search rules in
    rw (told, stands, c.in_ok-t.ensures.rule.0, c.in_ok-v.ensures.rule.0, year, factor) (told_at 5 c.args.factor _ _ c.requires.1.0 c.in_err-v-2.ensures.1)

pub returns-then-t-self : goal.returns-then-t-self
returns-then-t-self c =
    let r = c.args.self.now in
    let come : length (take r.come r.factors) ≡ r.come = length-take-le r.come r.factors (omega arith) in
    let stands : nat_lt (length (take r.come r.factors)) r.years ≡ true = lt-ltb _ _ (omega (arith, come)) in
    let year = is_in c.args.year _ _ _ _ c.in_ok-t.ensures.rule c.in_ok-t-2.ensures in
    let factor = is_in c.args.factor _ _ _ _ c.in_ok-v.ensures.rule c.in_ok-v-2.ensures in
    let t = kept_number c.args.year _ _ _ _ c.in_ok-t.ensures.rule c.in_ok-t-2.ensures in
    let next : (digits_value 10 (bytes_of c.args.year) == length (take r.come r.factors)) ≡ false = ne_eqb _ _ (λ e. c.if-t-self.true (t ∙ e ∙ come)) in
    rw (stands, c.in_ok-t.ensures.rule.0, c.in_ok-v.ensures.rule.0, year, factor, next) (ap Some (sym c.fault-then-t-self.ensures))

pub returns-in_err-check_rows : goal.returns-in_err-check_rows
returns-in_err-check_rows c =
    let r = c.args.self.now in
    let come : length (take r.come r.factors) ≡ r.come = length-take-le r.come r.factors (omega arith) in
    let stands : nat_lt (length (take r.come r.factors)) r.years ≡ true = lt-ltb _ _ (omega (arith, come)) in
    let year = is_in c.args.year _ _ _ _ c.in_ok-t.ensures.rule c.in_ok-t-2.ensures in
    let factor = is_in c.args.factor _ _ _ _ c.in_ok-v.ensures.rule c.in_ok-v-2.ensures in
    let t = kept_number c.args.year _ _ _ _ c.in_ok-t.ensures.rule c.in_ok-t-2.ensures in
    let next : (digits_value 10 (bytes_of c.args.year) == length (take r.come r.factors)) ≡ true = eq-eqb _ _ (sym t ∙ c.if-t-self.false ∙ sym come) in
    let told : c.from_residual-in_err-check_rows.result ≡ Err c.in_err-check_rows.field-0.0 = search rules in
    rw (told, stands, c.in_ok-t.ensures.rule.0, c.in_ok-v.ensures.rule.0, year, factor, next, c.in_err-check_rows.ensures.0) (ap Some (sym c.in_err-check_rows.ensures.1))

pub returns : goal.returns
returns c =
    let r = c.args.self.now in
    let come : length (take r.come r.factors) ≡ r.come = length-take-le r.come r.factors (omega arith) in
    let stands : nat_lt (length (take r.come r.factors)) r.years ≡ true = lt-ltb _ _ (omega (arith, come)) in
    let year = is_in c.args.year _ _ _ _ c.in_ok-t.ensures.rule c.in_ok-t-2.ensures in
    let factor = is_in c.args.factor _ _ _ _ c.in_ok-v.ensures.rule c.in_ok-v-2.ensures in
    let t = kept_number c.args.year _ _ _ _ c.in_ok-t.ensures.rule c.in_ok-t-2.ensures in
    let v = kept_number c.args.factor _ _ _ _ c.in_ok-v.ensures.rule c.in_ok-v-2.ensures in
    let next : (digits_value 10 (bytes_of c.args.year) == length (take r.come r.factors)) ≡ true = eq-eqb _ _ (sym t ∙ c.if-t-self.false ∙ sym come) in
    let here : c.in_ok-t-2.t ≡ r.come = c.if-t-self.false in
    let more : take (r.come + 1) (set r.factors r.come c.in_ok-v-2.v) ≡ take r.come r.factors ++ c.in_ok-v-2.v ∷ [] = take_more_set r.factors r.come _ (omega arith) in
    (rw (stands, c.in_ok-t.ensures.rule.0, c.in_ok-v.ensures.rule.0, year, factor, next, c.in_ok-check_rows.ensures) refl, rw (here, more, v) refl)
