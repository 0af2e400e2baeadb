use Rattle.std.proofs.Common.{◌≡◌, get_or, refl, subst, ⊎_elim, ◌∙◌, arith}
use Rattle.std.proofs.lemmas.List.{get_or_default, get_or_past}
use Rattle.std.proofs.lemmas.Bool.Decides.{leb_tells}
use Rattle.valuation.proofs.Steps.{one_holds_more}
use Rattle.valuation.proofs.within.all_roomy.Goals as goal

pub loop-figure-preserved : goal.loop-figure-preserved
loop-figure-preserved g c =
    let figures = c.args.after.now in
    let here = c.loop-figure.figure-index in
    let read : c.figure-item.result ≡ get_or figures here g.F.Roomy.nothing = c.figure-item.is ∙ get_or_default figures here c.figure-item.result g.F.Roomy.nothing c.loop-figure-test.true in
    one_holds_more g.F.Roomy.leaves_room here (λ j. get_or figures j g.F.Roomy.nothing) c.loop-figure.invariant (subst g.F.Roomy.leaves_room read (c.if-not-is_roomy.ensures.0 refl))

pub returns : goal.returns
returns g c = (
  (λ is j.
      ⊎_elim
      (λ outside. rw (get_or_past c.args.after.now j g.F.Roomy.nothing (omega (arith, outside, c.loop-figure-test.false))) g.F.Roomy.nothing_leaves_room)
      (λ inside. c.loop-figure.invariant j (omega (arith, inside)))
      (leb_tells c.loop-figure.figure-index j)),
  (λ all. refl),
)
