use Rattle.std.proofs.Common.{◌≡◌, rules, refl, ap, length, take, drop, ◌++◌, w64, to_z, of_z}
use Rattle.contract.specs.ContractStates.{year_told, alteration_told}
use Rattle.contract.specs.Ledgers.{Close, Alter, AskReserve, AskSpan, AskCourse, Closed, Altered, IsWorth, LiesWithin, Written, NotWritten, Refused}
use Rattle.contract.specs.Runs.{Told}
use Rattle.contract.proofs.Entries.{written_back}
use Rattle.contract.proofs.Loops.{turns_there}
use Rattle.contract.proofs.contract.Contract.answer.Goals as goal

pub returns-in-Ok : goal.returns-in-Ok
returns-in-Ok g c =
    turns_there (g.V.Valuation.operations c.args.valuation.now) c.args.self.now c.close.new.self (Close c.in-Close.end (to_z w64 (of_z w64 c.in-Close.rate))) (Closed (year_told c.in-Ok.closed)) _ _ (Prim.search rules) (Prim.search rules) (Prim.search rules)

pub returns-in-Err : goal.returns-in-Err
returns-in-Err g c =
    turns_there (g.V.Valuation.operations c.args.valuation.now) c.args.self.now c.close.new.self (Close c.in-Close.end (to_z w64 (of_z w64 c.in-Close.rate))) (Refused c.in-Err.fault) _ _ (Prim.search rules) (Prim.search rules) (Prim.search rules)

pub returns-in-Ok-alter : goal.returns-in-Ok-alter
returns-in-Ok-alter g c =
    turns_there (g.V.Valuation.operations c.args.valuation.now) c.args.self.now c.alter.new.self (Alter (g.P.Plan.payments c.in-Alter.plan)) (Altered (alteration_told c.in-Ok-alter.altered)) _ _ (Prim.search rules) (Prim.search rules) (Prim.search rules)

pub returns-in-Err-alter : goal.returns-in-Err-alter
returns-in-Err-alter g c =
    turns_there (g.V.Valuation.operations c.args.valuation.now) c.args.self.now c.alter.new.self (Alter (g.P.Plan.payments c.in-Alter.plan)) (Refused c.in-Err-alter.fault) _ _ (Prim.search rules) (Prim.search rules) (Prim.search rules)

pub returns-in-Reserve : goal.returns-in-Reserve
returns-in-Reserve g c =
    turns_there (g.V.Valuation.operations c.args.valuation.now) c.args.self.now c.args.self.now AskReserve (IsWorth c.reserve.result) _ _ (Prim.search rules) (Prim.search rules) (Prim.search rules)

pub returns-in-Span : goal.returns-in-Span
returns-in-Span g c =
    turns_there (g.V.Valuation.operations c.args.valuation.now) c.args.self.now c.args.self.now AskSpan (LiesWithin c.span.result) _ _ (Prim.search rules) (Prim.search rules) (Prim.search rules)

pub returns-in-Ok-course : goal.returns-in-Ok-course
returns-in-Ok-course g c =
    let back : take c.in-Course.column.len (c.course.new.column ++ drop (length c.course.new.column) c.in-Course.column.items) ≡ c.course.new.column = written_back c.in-Course.column.items c.course.new.column c.in-Course.column.len (Prim.search rules) (Prim.search rules) in
    turns_there (g.V.Valuation.operations c.args.valuation.now) c.args.self.now c.args.self.now (AskCourse c.deref_mut.result.now) (Written c.course.new.column) _ _ (Prim.search rules) (ap (λ xs. Told (Written xs)) back) (Prim.search rules)

pub returns-in-Err-course : goal.returns-in-Err-course
returns-in-Err-course g c =
    let back : take c.in-Course.column.len (c.course.new.column ++ drop (length c.course.new.column) c.in-Course.column.items) ≡ c.course.new.column = written_back c.in-Course.column.items c.course.new.column c.in-Course.column.len (Prim.search rules) (Prim.search rules) in
    turns_there (g.V.Valuation.operations c.args.valuation.now) c.args.self.now c.args.self.now (AskCourse c.deref_mut.result.now) (NotWritten c.in-Err-course.fault c.course.new.column) _ _ (Prim.search rules) (ap (λ xs. Told (NotWritten c.in-Err-course.fault xs)) back) (Prim.search rules)
