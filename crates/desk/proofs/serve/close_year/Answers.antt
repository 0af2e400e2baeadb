use Rattle.std.proofs.Common.{◌≡◌, rules, refl, ap, subst, Some, w64, to_z, of_z}
use Rattle.contract.specs.ContractStates.{Enters, ledger_of, standing, year_told}
use Rattle.contract.specs.Ledgers.{Close, Closed, Refused}
use Rattle.desk.specs.Serving.{done}
use Rattle.desk.specs.Sessions.{closes, closes_not}
use Rattle.desk.proofs.Serving.{entry_of}
use Rattle.desk.proofs.serve.close_year.Goals as goal

pub returns-in-Ok : goal.returns-in-Ok
returns-in-Ok c l same =
    let rate : to_z w64 (of_z w64 c.args.rate) ≡ c.args.rate = Prim.search rules in
    let interest : to_z w64 (of_z w64 c.in-Ok.closed.interest_result) ≡ c.in-Ok.closed.interest_result = Prim.search rules in
    let risk : to_z w64 (of_z w64 c.in-Ok.closed.risk_result) ≡ c.in-Ok.closed.risk_result = Prim.search rules in
    let reserve : to_z w64 (of_z w64 c.in-Ok.closed.reserve) ≡ c.in-Ok.closed.reserve = Prim.search rules in
    let enters : Enters c.args.contract (Close c.args.end c.args.rate) (Closed (year_told c.in-Ok.closed)) c.close.new.self = subst (λ z. Enters c.args.contract (Close c.args.end z) (Closed (year_told c.in-Ok.closed)) c.close.new.self) rate c.in-Ok.ensures.entry in
    let e = entry_of c.args.contract c.close.new.self l (Close c.args.end c.args.rate) (Closed (year_told c.in-Ok.closed)) same enters in
    rw (interest, risk, reserve) (Some (ledger_of (standing c.close.new.self) e.0), done (closes e.1), (ap (λ r. r.now) enters.same_basis, refl))

pub returns-in-Err : goal.returns-in-Err
returns-in-Err c l same =
    let rate : to_z w64 (of_z w64 c.args.rate) ≡ c.args.rate = Prim.search rules in
    let enters : Enters c.args.contract (Close c.args.end c.args.rate) (Refused c.in-Err.fault) c.close.new.self = subst (λ z. Enters c.args.contract (Close c.args.end z) (Refused c.in-Err.fault) c.close.new.self) rate c.in-Err.ensures.entry in
    let e = entry_of c.args.contract c.close.new.self l (Close c.args.end c.args.rate) (Refused c.in-Err.fault) same enters in
    rw c.refusal.ensures (Some (ledger_of (standing c.close.new.self) e.0), done (closes_not e.1), (ap (λ r. r.now) enters.same_basis, refl))
