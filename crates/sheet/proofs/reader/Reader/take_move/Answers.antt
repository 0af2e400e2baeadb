use Rattle.std.proofs.Common.{◌≡◌, ◌==◌, ◌<◌, ◌≤◌, ◌+◌, ◌-◌, ◌*◌, ◌∷◌, [], ◌++◌, true, false, Err, Some, take, set, length, nat_lt, refl, ap, sym, ◌∙◌, rules, arith}
use Rattle.std.proofs.lemmas.Bool.{lt-ltb, le-leb, lt-leb, eq-eqb, ne_eqb}
use Rattle.std.proofs.lemmas.List.{length-take-le}
use Rattle.std.specs.Str.Parse.{digits_value}
use Rattle.units.specs.Ranges.{million}
use Rattle.basis.specs.TransitionColumns.{place}
use Rattle.sheet.proofs.Checked.{is_in, is_out, kept_number, told_at}
use Rattle.sheet.proofs.Held.{put_held, put_noughts, more_held, places_fit}
use Rattle.sheet.proofs.Joins.{place_in_year}
use Rattle.sheet.proofs.Pairs.{after_shares}
use Rattle.sheet.specs.Checks.{padded}
use Rattle.sheet.specs.Fields.{bytes_of}
use Rattle.sheet.specs.Readers.{held}
use Rattle.sheet.proofs.reader.Reader.take_move.Goals as goal

pub returns-then-self-eq0 : goal.returns-then-self-eq0
returns-then-self-eq0 c =
    let r = c.args.self.now in
    let come : length (take r.come r.factors) ≡ r.come = length-take-le r.come r.factors (omega arith) in
    rw (come, c.if-self-eq0.true) (ap Some (sym c.fault.ensures))

pub returns-in_err-t : goal.returns-in_err-t
returns-in_err-t c =
    let r = c.args.self.now in
    let come : length (take r.come r.factors) ≡ r.come = length-take-le r.come r.factors (omega arith) in
    let stands : nat_lt 0 (length (take r.come r.factors)) ≡ true = lt-ltb 0 _ (omega (arith, come, c.if-self-eq0.false)) in
    let told : c.from_residual.result ≡ Err c.in_err-t.field-0.0 = search rules in
    rw (told, stands, c.in_err-t.ensures.rule) (told_at 4 c.args.year _ _ c.requires.0 c.in_err-t.ensures.value.1)

pub returns-in_err-i : goal.returns-in_err-i
returns-in_err-i c =
    let r = c.args.self.now in
    let come : length (take r.come r.factors) ≡ r.come = length-take-le r.come r.factors (omega arith) in
    let stands : nat_lt 0 (length (take r.come r.factors)) ≡ true = lt-ltb 0 _ (omega (arith, come, c.if-self-eq0.false)) in
    let told : c.from_residual-in_err-i.result ≡ Err c.in_err-i.field-0.0 = search rules in
    rw (told, stands, c.in_ok-t.ensures.rule.0, c.in_err-i.ensures.rule) (told_at 4 c.args.from _ _ c.requires.1.0 c.in_err-i.ensures.value.1)

pub returns-in_err-j : goal.returns-in_err-j
returns-in_err-j c =
    let r = c.args.self.now in
    let come : length (take r.come r.factors) ≡ r.come = length-take-le r.come r.factors (omega arith) in
    let stands : nat_lt 0 (length (take r.come r.factors)) ≡ true = lt-ltb 0 _ (omega (arith, come, c.if-self-eq0.false)) in
    let told : c.from_residual-in_err-j.result ≡ Err c.in_err-j.field-0.0 = search rules in
    rw (told, stands, c.in_ok-t.ensures.rule.0, c.in_ok-i.ensures.rule.0, c.in_err-j.ensures.rule) (told_at 4 c.args.to _ _ c.requires.1.1.0 c.in_err-j.ensures.value.1)

pub returns-in_err-p : goal.returns-in_err-p
returns-in_err-p c =
    let r = c.args.self.now in
    let come : length (take r.come r.factors) ≡ r.come = length-take-le r.come r.factors (omega arith) in
    let stands : nat_lt 0 (length (take r.come r.factors)) ≡ true = lt-ltb 0 _ (omega (arith, come, c.if-self-eq0.false)) in
    let told : c.from_residual-in_err-p.result ≡ Err c.in_err-p.field-0.0 = search rules in
    rw (told, stands, c.in_ok-t.ensures.rule.0, c.in_ok-i.ensures.rule.0, c.in_ok-j.ensures.rule.0, c.in_err-p.ensures.rule) (told_at 4 c.args.share _ _ c.requires.1.1.1.0 c.in_err-p.ensures.value.1)

pub returns-in_err-t-2 : goal.returns-in_err-t-2
returns-in_err-t-2 c =
    let r = c.args.self.now in
    let come : length (take r.come r.factors) ≡ r.come = length-take-le r.come r.factors (omega arith) in
    let stands : nat_lt 0 (length (take r.come r.factors)) ≡ true = lt-ltb 0 _ (omega (arith, come, c.if-self-eq0.false)) in
    let year = is_out c.args.year 0 (r.years - 1) _ c.in_ok-t.ensures.rule c.in_err-t-2.ensures.0 in
    let told : c.from_residual-in_err-t-2.result ≡ Err c.in_err-t-2.field-0.0 = search rules in
    rw (told, stands, c.in_ok-t.ensures.rule.0, c.in_ok-i.ensures.rule.0, c.in_ok-j.ensures.rule.0, c.in_ok-p.ensures.rule.0, year) (told_at 5 c.args.year _ _ c.requires.0 c.in_err-t-2.ensures.1)

pub returns-in_err-i-2 : goal.returns-in_err-i-2
returns-in_err-i-2 c =
    let r = c.args.self.now in
    let come : length (take r.come r.factors) ≡ r.come = length-take-le r.come r.factors (omega arith) in
    let stands : nat_lt 0 (length (take r.come r.factors)) ≡ true = lt-ltb 0 _ (omega (arith, come, c.if-self-eq0.false)) in
    let year = is_in c.args.year _ _ _ _ c.in_ok-t.ensures.rule c.in_ok-t-2.ensures in
    let from = is_out c.args.from 0 (r.states - 1) _ c.in_ok-i.ensures.rule c.in_err-i-2.ensures.0 in
    let told : c.from_residual-in_err-i-2.result ≡ Err c.in_err-i-2.field-0.0 = search rules in
    rw (told, stands, c.in_ok-t.ensures.rule.0, c.in_ok-i.ensures.rule.0, c.in_ok-j.ensures.rule.0, c.in_ok-p.ensures.rule.0, year, from) (told_at 5 c.args.from _ _ c.requires.1.0 c.in_err-i-2.ensures.1)

pub returns-in_err-j-2 : goal.returns-in_err-j-2
returns-in_err-j-2 c =
    let r = c.args.self.now in
    let come : length (take r.come r.factors) ≡ r.come = length-take-le r.come r.factors (omega arith) in
    let stands : nat_lt 0 (length (take r.come r.factors)) ≡ true = lt-ltb 0 _ (omega (arith, come, c.if-self-eq0.false)) in
    let year = is_in c.args.year _ _ _ _ c.in_ok-t.ensures.rule c.in_ok-t-2.ensures in
    let from = is_in c.args.from _ _ _ _ c.in_ok-i.ensures.rule c.in_ok-i-2.ensures in
    let to = is_out c.args.to 0 (r.states - 1) _ c.in_ok-j.ensures.rule c.in_err-j-2.ensures.0 in
    let told : c.from_residual-in_err-j-2.result ≡ Err c.in_err-j-2.field-0.0 = search rules in
    rw (told, stands, c.in_ok-t.ensures.rule.0, c.in_ok-i.ensures.rule.0, c.in_ok-j.ensures.rule.0, c.in_ok-p.ensures.rule.0, year, from, to) (told_at 5 c.args.to _ _ c.requires.1.1.0 c.in_err-j-2.ensures.1)

pub returns-in_err-p-2 : goal.returns-in_err-p-2
returns-in_err-p-2 c =
    let r = c.args.self.now in
    let come : length (take r.come r.factors) ≡ r.come = length-take-le r.come r.factors (omega arith) in
    let stands : nat_lt 0 (length (take r.come r.factors)) ≡ true = lt-ltb 0 _ (omega (arith, come, c.if-self-eq0.false)) in
    let year = is_in c.args.year _ _ _ _ c.in_ok-t.ensures.rule c.in_ok-t-2.ensures in
    let from = is_in c.args.from _ _ _ _ c.in_ok-i.ensures.rule c.in_ok-i-2.ensures in
    let to = is_in c.args.to _ _ _ _ c.in_ok-j.ensures.rule c.in_ok-j-2.ensures in
    let share = is_out c.args.share 1 million _ c.in_ok-p.ensures.rule c.in_err-p-2.ensures.0 in
    let told : c.from_residual-in_err-p-2.result ≡ Err c.in_err-p-2.field-0.0 = search rules in
    rw (told, stands, c.in_ok-t.ensures.rule.0, c.in_ok-i.ensures.rule.0, c.in_ok-j.ensures.rule.0, c.in_ok-p.ensures.rule.0, year, from, to, share) (told_at 5 c.args.share _ _ c.requires.1.1.1.0 c.in_err-p-2.ensures.1)

pub returns-then-t-self : goal.returns-then-t-self
returns-then-t-self c =
    let r = c.args.self.now in
    let come : length (take r.come r.factors) ≡ r.come = length-take-le r.come r.factors (omega arith) in
    let stands : nat_lt 0 (length (take r.come r.factors)) ≡ true = lt-ltb 0 _ (omega (arith, come, c.if-self-eq0.false)) in
    let year = is_in c.args.year _ _ _ _ c.in_ok-t.ensures.rule c.in_ok-t-2.ensures in
    let from = is_in c.args.from _ _ _ _ c.in_ok-i.ensures.rule c.in_ok-i-2.ensures in
    let to = is_in c.args.to _ _ _ _ c.in_ok-j.ensures.rule c.in_ok-j-2.ensures in
    let share = is_in c.args.share _ _ _ _ c.in_ok-p.ensures.rule c.in_ok-p-2.ensures in
    let t = kept_number c.args.year _ _ _ _ c.in_ok-t.ensures.rule c.in_ok-t-2.ensures in
    let order : (digits_value 10 (bytes_of c.args.year) + 1 == length (take r.come r.factors)) ≡ false = ne_eqb _ _ (λ e. c.if-t-self.true (ap (λ n. n + 1) t ∙ e ∙ come)) in
    rw (stands, c.in_ok-t.ensures.rule.0, c.in_ok-i.ensures.rule.0, c.in_ok-j.ensures.rule.0, c.in_ok-p.ensures.rule.0, year, from, to, share, order) (ap Some (sym c.fault-then-t-self.ensures))

pub returns-then-place-self : goal.returns-then-place-self
returns-then-place-self c =
    let r = c.args.self.now in
    let come : length (take r.come r.factors) ≡ r.come = length-take-le r.come r.factors (omega arith) in
    let stands : nat_lt 0 (length (take r.come r.factors)) ≡ true = lt-ltb 0 _ (omega (arith, come, c.if-self-eq0.false)) in
    let year = is_in c.args.year _ _ _ _ c.in_ok-t.ensures.rule c.in_ok-t-2.ensures in
    let from = is_in c.args.from _ _ _ _ c.in_ok-i.ensures.rule c.in_ok-i-2.ensures in
    let to = is_in c.args.to _ _ _ _ c.in_ok-j.ensures.rule c.in_ok-j-2.ensures in
    let share = is_in c.args.share _ _ _ _ c.in_ok-p.ensures.rule c.in_ok-p-2.ensures in
    let t = kept_number c.args.year _ _ _ _ c.in_ok-t.ensures.rule c.in_ok-t-2.ensures in
    let i = kept_number c.args.from _ _ _ _ c.in_ok-i.ensures.rule c.in_ok-i-2.ensures in
    let j = kept_number c.args.to _ _ _ _ c.in_ok-j.ensures.rule c.in_ok-j-2.ensures in
    let some : 2 ≤ r.states = r.least_states (omega (arith, c.if-self-eq0.false)) in
    let this_year : digits_value 10 (bytes_of c.args.year) + 1 ≡ length (take r.come r.factors) = omega (arith, t, come, c.if-t-self.false) in
    let order : (digits_value 10 (bytes_of c.args.year) + 1 == length (take r.come r.factors)) ≡ true = eq-eqb _ _ this_year in
    let after = after_shares (held r) (digits_value 10 (bytes_of c.args.from)) (digits_value 10 (bytes_of c.args.to)) (digits_value 10 (bytes_of c.args.year)) this_year (omega (arith, j, c.in_ok-j-2.ensures.2, some)) in
    let next : length (take r.next r.shares) ≡ r.next = length-take-le r.next r.shares (omega (arith, places_fit r.states r.come r.most_states (omega arith))) in
    let early : place r.states (digits_value 10 (bytes_of c.args.from)) (digits_value 10 (bytes_of c.args.to)) (digits_value 10 (bytes_of c.args.year)) < length (take r.next r.shares) = rw (← t, ← i, ← j, next) c.if-place-self.true in
    rw (stands, c.in_ok-t.ensures.rule.0, c.in_ok-i.ensures.rule.0, c.in_ok-j.ensures.rule.0, c.in_ok-p.ensures.rule.0, year, from, to, share, order, after, lt-leb _ _ early) (ap Some (sym c.fault-then-place-self.ensures))

pub invariant_of-self-clause-places : goal.invariant_of-self-clause-places
invariant_of-self-clause-places c =
    let r = c.args.self.now in
    let some : 2 ≤ r.states = r.least_states (omega (arith, c.if-self-eq0.false)) in
    let inside = place_in_year r.states c.in_ok-i-2.i c.in_ok-j-2.j c.in_ok-t-2.t r.come (omega (arith, c.if-t-self.false)) (omega (arith, some, c.in_ok-i-2.ensures.2)) (omega (arith, some, c.in_ok-j-2.ensures.2)) in
    omega arith

pub invariant_of-self-clause-noughts : goal.invariant_of-self-clause-noughts
invariant_of-self-clause-noughts c =
    let r = c.args.self.now in
    put_noughts r.shares r.next _ _ c.if-place-self.false r.noughts

pub returns : goal.returns
returns c =
    let r = c.args.self.now in
    let come : length (take r.come r.factors) ≡ r.come = length-take-le r.come r.factors (omega arith) in
    let stands : nat_lt 0 (length (take r.come r.factors)) ≡ true = lt-ltb 0 _ (omega (arith, come, c.if-self-eq0.false)) in
    let year = is_in c.args.year _ _ _ _ c.in_ok-t.ensures.rule c.in_ok-t-2.ensures in
    let from = is_in c.args.from _ _ _ _ c.in_ok-i.ensures.rule c.in_ok-i-2.ensures in
    let to = is_in c.args.to _ _ _ _ c.in_ok-j.ensures.rule c.in_ok-j-2.ensures in
    let share = is_in c.args.share _ _ _ _ c.in_ok-p.ensures.rule c.in_ok-p-2.ensures in
    let t = kept_number c.args.year _ _ _ _ c.in_ok-t.ensures.rule c.in_ok-t-2.ensures in
    let i = kept_number c.args.from _ _ _ _ c.in_ok-i.ensures.rule c.in_ok-i-2.ensures in
    let j = kept_number c.args.to _ _ _ _ c.in_ok-j.ensures.rule c.in_ok-j-2.ensures in
    let p = kept_number c.args.share _ _ _ _ c.in_ok-p.ensures.rule c.in_ok-p-2.ensures in
    let some : 2 ≤ r.states = r.least_states (omega (arith, c.if-self-eq0.false)) in
    let this_year : digits_value 10 (bytes_of c.args.year) + 1 ≡ length (take r.come r.factors) = omega (arith, t, come, c.if-t-self.false) in
    let order : (digits_value 10 (bytes_of c.args.year) + 1 == length (take r.come r.factors)) ≡ true = eq-eqb _ _ this_year in
    let after = after_shares (held r) (digits_value 10 (bytes_of c.args.from)) (digits_value 10 (bytes_of c.args.to)) (digits_value 10 (bytes_of c.args.year)) this_year (omega (arith, j, c.in_ok-j-2.ensures.2, some)) in
    let next : length (take r.next r.shares) ≡ r.next = length-take-le r.next r.shares (omega (arith, places_fit r.states r.come r.most_states (omega arith))) in
    let inside : place r.states c.in_ok-i-2.i c.in_ok-j-2.j c.in_ok-t-2.t < r.years * r.states * r.states = place_in_year r.states c.in_ok-i-2.i c.in_ok-j-2.j c.in_ok-t-2.t r.years (omega (arith, c.in_ok-t-2.ensures.2)) (omega (arith, c.in_ok-i-2.ensures.2)) (omega (arith, c.in_ok-j-2.ensures.2)) in
    let fit = places_fit r.states r.years r.most_states r.most_years in
    let late : length (take r.next r.shares) ≤ place r.states (digits_value 10 (bytes_of c.args.from)) (digits_value 10 (bytes_of c.args.to)) (digits_value 10 (bytes_of c.args.year)) = rw (← t, ← i, ← j, next) c.if-place-self.false in
    let shares : take (place r.states c.in_ok-i-2.i c.in_ok-j-2.j c.in_ok-t-2.t + 1) (set r.shares (place r.states c.in_ok-i-2.i c.in_ok-j-2.j c.in_ok-t-2.t) c.in_ok-p-2.p) ≡ padded (take r.next r.shares) (place r.states c.in_ok-i-2.i c.in_ok-j-2.j c.in_ok-t-2.t) ++ c.in_ok-p-2.p ∷ [] = put_held r.shares r.next _ _ c.if-place-self.false (omega arith) r.noughts in
    (rw (stands, c.in_ok-t.ensures.rule.0, c.in_ok-i.ensures.rule.0, c.in_ok-j.ensures.rule.0, c.in_ok-p.ensures.rule.0, year, from, to, share, order, after, le-leb _ _ late) refl, more_held r _ _ _ _ _ _ _ _ _ shares i j t p)
