use Rattle.std.proofs.Common.{◌≡◌, ℤ, w64, to_z, of_z, refl, ◌∙◌, rules}
use Rattle.valuation.proofs.Agreement.{reserve_bound}
use Rattle.valuation.proofs.Closeness.{reserve_near}
use Rattle.contract.specs.ContractStates.{basis_of, standing}
use Rattle.contract.specs.Standings.{reserve_at}
use Rattle.contract.proofs.Entries.{reserve_there}
use Rattle.contract.proofs.Promised.{promised_in_the_mean}
use Rattle.contract.proofs.contract.Contract.reserve.Goals as goal

pub returns-clause-entry : goal.returns-clause-entry
returns-clause-entry g c = record { same_basis = refl; entry = reserve_there (basis_of c.args.self.now) (standing c.args.self.now) _ (Prim.search rules) }

pub returns-clause-range : goal.returns-clause-range
returns-clause-range g c =
    let k = c.args.self.now in
    let kept : to_z w64 (of_z w64 k.reserve) ≡ k.reserve = Prim.search rules in
    let is : to_z w64 (of_z w64 k.reserve) ≡ reserve_at (basis_of k) (standing k) = kept ∙ k.reserved in
    rw is (reserve_bound (basis_of k) (g.met.B.Basis.lawful k.basis.now) (g.P.Plan.payments k.plan) (g.met.P.Plan.bounded k.plan) k.premium.ticks k.premium.range k.state k.year)

pub returns-clause-near_exact : goal.returns-clause-near_exact
returns-clause-near_exact g c =
    let k = c.args.self.now in
    let kept : to_z w64 (of_z w64 k.reserve) ≡ k.reserve = Prim.search rules in
    let is : to_z w64 (of_z w64 k.reserve) ≡ reserve_at (basis_of k) (standing k) = kept ∙ k.reserved in
    rw is (reserve_near (basis_of k) (g.met.B.Basis.lawful k.basis.now) (g.P.Plan.payments k.plan) k.premium.ticks k.state k.year k.state_in_basis k.year_in_basis)

pub returns-clause-promise : goal.returns-clause-promise
returns-clause-promise g c = promised_in_the_mean (basis_of c.args.self.now) (g.met.B.Basis.lawful c.args.self.now.basis.now)
