use Rattle.std.proofs.Common.{◌≡◌, ◌*◌, Err, take, refl, ap, ◌∙◌, rules}
use Rattle.basis.specs.TransitionTables.{Holds}
use Rattle.sheet.proofs.FromSheets.{fits, taken}
use Rattle.sheet.proofs.table.read_into.Goals as goal

pub returns-in_err-reading-clause-answer : goal.returns-in_err-reading-clause-answer
returns-in_err-reading-clause-answer c =
    let told : c.from_residual.result ≡ Err c.in_err-reading.field-0.0 = search rules in
    rw told (c.in_err-reading.ensures.answer.0, c.in_err-reading.ensures.told, refl)

pub returns-in_err-reading-clause-every_sheet : goal.returns-in_err-reading-clause-every_sheet
returns-in_err-reading-clause-every_sheet c = λ s rest sheet. absurd (c.in_err-reading.ensures.every_sheet s rest sheet)

pub returns-in_err-reading-clause-capacity : goal.returns-in_err-reading-clause-capacity
returns-in_err-reading-clause-capacity c = record { factors = refl; shares = refl }

pub returns-in_err-reading-clause-every_fault : goal.returns-in_err-reading-clause-every_fault
returns-in_err-reading-clause-every_fault c = λ fault refuses.
    let known = c.in_err-reading.ensures.every_fault fault refuses in
    let same : c.in_err-reading.field-0.0 ≡ fault = cc known in
    let told : c.from_residual.result ≡ Err c.in_err-reading.field-0.0 = search rules in
    (told ∙ ap Err same, refl)

pub returns-in_err-take_in-clause-answer : goal.returns-in_err-take_in-clause-answer
returns-in_err-take_in-clause-answer c =
    let read = c.in_ok-reading.ensures.answer in
    absurd (c.in_err-take_in.ensures.outcome.0 (fits c.args.bytes.now _ _ c.read.new.factors c.read.new.shares c.in_ok-reading.reading read.0 read.1))

pub returns-in_err-take_in-clause-every_sheet : goal.returns-in_err-take_in-clause-every_sheet
returns-in_err-take_in-clause-every_sheet c =
    let read = c.in_ok-reading.ensures.answer in
    absurd (c.in_err-take_in.ensures.outcome.0 (fits c.args.bytes.now _ _ c.read.new.factors c.read.new.shares c.in_ok-reading.reading read.0 read.1))

pub returns-in_err-take_in-clause-every_fault : goal.returns-in_err-take_in-clause-every_fault
returns-in_err-take_in-clause-every_fault c =
    let read = c.in_ok-reading.ensures.answer in
    absurd (c.in_err-take_in.ensures.outcome.0 (fits c.args.bytes.now _ _ c.read.new.factors c.read.new.shares c.in_ok-reading.reading read.0 read.1))

pub returns-in_err-take_in-clause-capacity : goal.returns-in_err-take_in-clause-capacity
returns-in_err-take_in-clause-capacity c = c.take_in.ensures.capacity

pub returns-clause-answer : goal.returns-clause-answer
returns-clause-answer c =
    let read = c.in_ok-reading.ensures.answer in
    let holds : Holds c.take_in.new.self c.in_ok-reading.reading.states (take c.in_ok-reading.reading.years c.read.new.factors) (take (c.in_ok-reading.reading.years * c.in_ok-reading.reading.states * c.in_ok-reading.reading.states) c.read.new.shares) = c.in_ok-take_in.ensures.outcome.1 in
    (read.0, taken c.args.bytes.now _ _ c.read.new.factors c.read.new.shares c.in_ok-reading.reading read.0 c.take_in.new.self refl read.1 holds)

pub returns-clause-every_sheet : goal.returns-clause-every_sheet
returns-clause-every_sheet c = λ s rest sheet.
    let read = c.in_ok-reading.ensures.every_sheet s rest sheet in
    let holds : Holds c.take_in.new.self c.in_ok-reading.reading.states (take c.in_ok-reading.reading.years c.read.new.factors) (take (c.in_ok-reading.reading.years * c.in_ok-reading.reading.states * c.in_ok-reading.reading.states) c.read.new.shares) = c.in_ok-take_in.ensures.outcome.1 in
    (read.0, taken c.args.bytes.now _ _ c.read.new.factors c.read.new.shares c.in_ok-reading.reading s c.take_in.new.self refl read.1 holds)

pub returns-clause-every_fault : goal.returns-clause-every_fault
returns-clause-every_fault c = λ fault refuses.
    let none = c.in_ok-reading.ensures.every_fault fault refuses in
    absurd (cc none)

pub returns-clause-capacity : goal.returns-clause-capacity
returns-clause-capacity c = c.take_in.ensures.capacity
