use Rattle.std.proofs.Common.{◌≡◌, rules, refl, ap₂, ◌∙◌, ◌*ℤ◌, w64, to_z, of_z}
use Rattle.valuation.specs.Closings.{ClosingValues}
use Rattle.contract.specs.ContractStates.{basis_of, standing}
use Rattle.contract.specs.Steps.{rounded_interest}
use Rattle.contract.proofs.Years.{values_of_move, year_is}
use Rattle.contract.proofs.contract.Contract.closed_year.Goals as goal

pub returns : goal.returns
returns g c =
    let k = c.args.self.now in
    let plan = g.P.Plan.payments k.plan in
    let found = c.closing_values-reserve.result in
    let results = c.results-interest_result.result in
    let values : ClosingValues (basis_of k) plan k.premium.ticks k.state k.year c.args.end found.0.0 found.0.1 found.1 = values_of_move c.args.step.now k.basis.now k.state c.args.end k.year plan k.premium.ticks found c.requires.step c.closing_values-reserve.ensures in
    let earned : to_z w64 (of_z w64 c.interest_earned-interest_earned.result) ≡ c.interest_earned-interest_earned.result = Prim.search rules in
    let interest : to_z w64 (of_z w64 results.0) ≡ results.0 = Prim.search rules in
    let risk : to_z w64 (of_z w64 results.1) ≡ results.1 = Prim.search rules in
    let later : to_z w64 (of_z w64 found.1) ≡ found.1 = Prim.search rules in
    let present : to_z w64 (of_z w64 found.0.0) ≡ found.0.0 = Prim.search rules in
    let rate : to_z w64 (of_z w64 c.args.rate) ≡ c.args.rate = Prim.search rules in
    let earns : c.interest_earned-interest_earned.result ≡ rounded_interest (found.0.0 *ℤ c.args.rate) = c.interest_earned-interest_earned.ensures.value ∙ ap₂ (λ x y. rounded_interest (x *ℤ y)) present rate in
    year_is (basis_of k) (standing k) c.args.end c.args.rate found.0.0 found.0.1 found.1 values _ c.move_benefit-benefit.result refl refl c.premium_taken.ensures c.benefits_paid.ensures c.move_benefit-benefit.ensures
    (rw earned earns) (rw interest c.results-interest_result.ensures.interest) (rw (risk, ← later) c.results-interest_result.ensures.risk) later
