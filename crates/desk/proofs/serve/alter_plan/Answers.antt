use Rattle.std.proofs.Common.{◌≡◌, rules, refl, ap, pos, Some, w64, to_z, of_z}
use Rattle.plan.specs.Endowments.{endowment}
use Rattle.contract.specs.ContractStates.{Enters, ledger_of, standing, alteration_told}
use Rattle.contract.specs.Ledgers.{Alter, Altered, Refused}
use Rattle.desk.specs.Serving.{done}
use Rattle.desk.specs.Sessions.{alters, alters_not}
use Rattle.desk.proofs.Serving.{entry_of}
use Rattle.desk.proofs.serve.alter_plan.Goals as goal

pub returns-in-Ok : goal.returns-in-Ok
returns-in-Ok c l same =
    let premium : to_z w64 c.ticks.result ≡ pos c.in-Ok.altered.premium.ticks = Prim.search rules in
    let result : to_z w64 (of_z w64 c.in-Ok.altered.result) ≡ c.in-Ok.altered.result = Prim.search rules in
    let reserve : to_z w64 (of_z w64 c.in-Ok.altered.reserve) ≡ c.in-Ok.altered.reserve = Prim.search rules in
    let enters : Enters c.args.contract (Alter (endowment c.args.plan)) (Altered (alteration_told c.in-Ok.altered)) c.alter.new.self = c.in-Ok.ensures.entry in
    let e = entry_of c.args.contract c.alter.new.self l (Alter (endowment c.args.plan)) (Altered (alteration_told c.in-Ok.altered)) same enters in
    rw (premium, result, reserve) (Some (ledger_of (standing c.alter.new.self) e.0), done (alters e.1), (ap (λ r. r.now) enters.same_basis, refl))

pub returns-in-Err : goal.returns-in-Err
returns-in-Err c l same =
    let enters : Enters c.args.contract (Alter (endowment c.args.plan)) (Refused c.in-Err.fault) c.alter.new.self = c.in-Err.ensures.entry in
    let e = entry_of c.args.contract c.alter.new.self l (Alter (endowment c.args.plan)) (Refused c.in-Err.fault) same enters in
    rw c.refusal.ensures (Some (ledger_of (standing c.alter.new.self) e.0), done (alters_not e.1), (ap (λ r. r.now) enters.same_basis, refl))
