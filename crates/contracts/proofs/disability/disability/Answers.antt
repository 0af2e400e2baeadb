use Rattle.std.proofs.Common.{◌≡◌, sym, ◌∙◌, subst}
use Rattle.std.proofs.lemmas.List.Elements.{same_from_all_zip}
use Rattle.basis.specs.TransitionColumns.{Fit}
use Rattle.basis.specs.TransitionTables.{Holds}
use Rattle.contracts.specs.Disability.{factors, shares}
use Rattle.contracts.proofs.DisabilityFit.{disability_fit}
use Rattle.contracts.proofs.disability.disability.Goals as goal

pub returns-in_err-take_in : goal.returns-in_err-take_in
returns-in_err-take_in c =
    let column : c.deref.result.now ≡ shares = c.deref.ensures.value ∙ same_from_all_zip _ _ _ c.in_ok-shares.ensures.ok (λ x y same. same) in
    absurd (c.in_err-take_in.ensures.outcome.0 (subst (Fit 3 5 factors) (sym column) disability_fit))

pub returns : goal.returns
returns c =
    let column : c.deref.result.now ≡ shares = c.deref.ensures.value ∙ same_from_all_zip _ _ _ c.in_ok-shares.ensures.ok (λ x y same. same) in
    subst (Holds c.take_in.new.self 3 factors) column c.in_ok-take_in.ensures.outcome.1
