use Rattle.std.proofs.Common.{◌≡◌, [], ◌++◌, map, pos, ap, ◌∙◌}
use Rattle.std.specs.List.{repeat}
use Rattle.std.proofs.lemmas.List.Elements.{same_from_all_zip}
use Rattle.pension.specs.Capital.{move_year, moves}
use Rattle.pension.proofs.CapitalFit.{fits_as_capital, holds_capital}
use Rattle.pension.proofs.capital.pension_with_capital.Goals as goal

pub returns-in_err-take_in : goal.returns-in_err-take_in
returns-in_err-take_in c =
    let year : c.deref.result.now ≡ map pos move_year = c.deref.ensures.value ∙ same_from_all_zip _ _ _ c.in_ok-concat.ensures.ok (λ x y same. same) in
    let transfers : c.deref-4.result.now ≡ moves = c.deref-4.ensures.value ∙ c.in_ok-moves.ensures ∙ ap (λ xs. repeat 10 xs ++ []) year in
    absurd (c.in_err-take_in.ensures.outcome.0 (fits_as_capital (c.deref-2.ensures.value ∙ c.in_ok-benefits.ensures) (c.deref-3.ensures.value ∙ c.in_ok-marks.ensures) transfers))

pub returns : goal.returns
returns c =
    let year : c.deref.result.now ≡ map pos move_year = c.deref.ensures.value ∙ same_from_all_zip _ _ _ c.in_ok-concat.ensures.ok (λ x y same. same) in
    let transfers : c.deref-4.result.now ≡ moves = c.deref-4.ensures.value ∙ c.in_ok-moves.ensures ∙ ap (λ xs. repeat 10 xs ++ []) year in
    holds_capital _ (c.deref-2.ensures.value ∙ c.in_ok-benefits.ensures) (c.deref-3.ensures.value ∙ c.in_ok-marks.ensures) transfers c.in_ok-take_in.ensures.outcome.1
