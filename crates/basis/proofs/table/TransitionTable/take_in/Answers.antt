use Rattle.std.proofs.Common.{◌≡◌, length, pos, vec_len, sym, refl, ap, ◌∙◌, arith, rules}
use Rattle.std.proofs.lemmas.List.{length-map}
use Rattle.std.proofs.lemmas.Result.{err_from_is_err_and}
use Rattle.basis.proofs.Rows.{unfit, fit_entries, most_places}
use Rattle.basis.proofs.table.TransitionTable.take_in.Goals as goal

pub returns-in_err-check-clause-outcome : goal.returns-in_err-check-clause-outcome
returns-in_err-check-clause-outcome c =
    let p = err_from_is_err_and c.from_residual.result c.from_residual.ensures.1 in
    let refuses = c.in_err-check.ensures in
    rw (p.1, p.2) (unfit _ _ _ _ _ refuses, refuses, refl)

pub refill-requires-2 : goal.refill-requires-2
refill-requires-2 c =
    let fit = c.in_ok-check.ensures in
    let size = fit.size in
    let few = most_places c.args.states c.args.years size.most_states size.most_years in
    record { checked = fit_entries _ _ _ _ fit; room = omega (arith, few, size.share_places, c.args.self.now.share_room) }

pub invariant_of-self : goal.invariant_of-self
invariant_of-self c =
    let fit = c.in_ok-check.ensures in
    let factors = c.refill.ensures.items in
    let years : vec_len c.refill.new.parts ≡ c.args.years = c.refill.new.parts.ok.0 ∙ sym (length-map _ pos) ∙ ap length factors ∙ fit.size.factor_places in
    let held = rw (← years, ← factors, ← c.refill-2.ensures.items) at fit in
    record {
      fit = search rules;
      factor_room = omega (arith, c.refill.ensures.capacity);
      share_room = omega (arith, c.refill-2.ensures.capacity);
    }
