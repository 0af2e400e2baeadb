use Rattle.std.proofs.Common.{◌≡◌, arith, refl, ap, ap₂, ◌∙◌}
use Rattle.units.specs.declared.fault.Fault.{Fault}
use Rattle.units.specs.declared.fault.Place.{Place}
use Rattle.sheet.specs.Fields.{bytes_of}
use Rattle.c_interface.specs.SheetOutcomes.{report_at, sheet_read, sheet_refused}
use Rattle.c_interface.proofs.sheets.fineochre_read_sheet.Goals as goal

-- a fault with another place
abbrev told_at : Fault → Place → Fault
told_at fault place = record { number = fault.number; layer = fault.layer; place = place }

pub returns-in-Ok-clause-answer : goal.returns-in-Ok-clause-answer
returns-in-Ok-clause-answer c =
    let read = c.in-Ok.ensures.answer in
    sheet_read read.0 (bytes_of c.in-Ok.reading.rest) (record { done = refl; sheet = read.1.sheet; factors_filled = read.1.factors_filled; shares_filled = read.1.shares_filled; told = ap₂ (λ m n. report_at m n c.spot-spot.result) read.1.states read.1.years ∙ ap (report_at read.0.states read.0.years) (c.spot-spot.ensures ∙ read.1.rest) })

pub returns-in-Ok-clause-every_fault : goal.returns-in-Ok-clause-every_fault
returns-in-Ok-clause-every_fault c = λ fault refuses. let refused = c.in-Ok.ensures.every_fault fault refuses in absurd (grind arith)

pub returns-in-Text-clause-answer : goal.returns-in-Text-clause-answer
returns-in-Text-clause-answer c =
    let refused = c.in-Err.ensures.answer in
    let text = c.in-Err.ensures.told in
    sheet_refused c.in-Err.fault (record { refuses = refused.0; least = text.from; most = text.to; told = ap (told_at c.in-Err.fault) c.in-Text.is; numbers_kept = (refl, refl); columns_kept = (refused.1, refused.2) })

pub returns-in-Text-clause-every_fault : goal.returns-in-Text-clause-every_fault
returns-in-Text-clause-every_fault c = λ fault refuses.
    let kept = c.in-Err.ensures.answer in
    let refused = c.in-Err.ensures.every_fault fault refuses in
    let same : c.in-Err.fault ≡ fault = grind arith in
    let text = c.in-Err.ensures.told in
    record { refuses = refuses; least = text.from; most = text.to; told = grind arith; numbers_kept = (refl, refl); columns_kept = (kept.1, kept.2) }

pub returns-in_default-clause-answer : goal.returns-in_default-clause-answer
returns-in_default-clause-answer c =
    let text = c.in-Err.ensures.told in
    absurd (c.in_default.not-Text text.line text.offset (grind arith))

pub returns-in_default-clause-every_fault : goal.returns-in_default-clause-every_fault
returns-in_default-clause-every_fault c = λ fault refuses.
    let text = c.in-Err.ensures.told in
    absurd (c.in_default.not-Text text.line text.offset (grind arith))
