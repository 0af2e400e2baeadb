use Rattle.std.proofs.Common.{◌≡◌, Err, pos, ap, ◌∙◌, rules, arith}
use Rattle.std.proofs.lemmas.List.{length-map}
use Rattle.sheet.specs.Faults.{Refuses, InText}
use Rattle.sheet.specs.Fields.{bytes_of}
use Rattle.sheet.specs.Lines.{start}
use Rattle.sheet.specs.Readers.{held}
use Rattle.sheet.specs.Reading.{Reads, nothing_yet, ends, refused}
use Rattle.sheet.specs.Readings.{lengths}
use Rattle.sheet.specs.Sheets.{IsSheet}
use Rattle.sheet.proofs.FaultPlaces.{refused_in_text}
use Rattle.sheet.proofs.Told.{no_sheet, same_fault, no_fault, is_read, each_sheet}
use Rattle.sheet.proofs.Sound.{reads_ended, reads_refused}
use Rattle.sheet.proofs.Worked.{worked}
use Rattle.sheet.proofs.read.read.Goals as goal

pub returns-in_err-rest-clause-worked : goal.returns-in_err-rest-clause-worked
returns-in_err-rest-clause-worked c = worked

pub returns-clause-worked : goal.returns-clause-worked
returns-clause-worked c = worked

pub returns-in_err-rest-clause-answer : goal.returns-in_err-rest-clause-answer
returns-in_err-rest-clause-answer c =
    let columns = lengths c.args.factors.now c.args.shares.now in
    let outcome : Reads (lengths c.args.factors.now c.args.shares.now) nothing_yet start c.args.bytes.now (refused c.in_err-rest.field-0.0) = search rules in
    let refuses : Refuses (lengths c.args.factors.now c.args.shares.now) c.args.bytes.now c.in_err-rest.field-0.0 = reads_refused _ c.args.bytes.now c.in_err-rest.field-0.0 outcome in
    search rules

pub returns-in_err-rest-clause-told : goal.returns-in_err-rest-clause-told
returns-in_err-rest-clause-told c =
    let columns = lengths c.args.factors.now c.args.shares.now in
    let outcome : Reads (lengths c.args.factors.now c.args.shares.now) nothing_yet start c.args.bytes.now (refused c.in_err-rest.field-0.0) = search rules in
    let text : InText 2 8 c.in_err-rest.field-0.0 = refused_in_text _ c.args.bytes.now c.in_err-rest.field-0.0 (reads_refused _ c.args.bytes.now c.in_err-rest.field-0.0 outcome) in
    search rules

pub returns-in_err-rest-clause-every_sheet : goal.returns-in_err-rest-clause-every_sheet
returns-in_err-rest-clause-every_sheet c =
    let outcome : Reads (lengths c.args.factors.now c.args.shares.now) nothing_yet start c.args.bytes.now (refused c.in_err-rest.field-0.0) = search rules in
    λ s rest sheet. absurd (no_sheet _ c.args.bytes.now c.in_err-rest.field-0.0 outcome s rest sheet)

pub returns-in_err-rest-clause-every_fault : goal.returns-in_err-rest-clause-every_fault
returns-in_err-rest-clause-every_fault c =
    let outcome : Reads (lengths c.args.factors.now c.args.shares.now) nothing_yet start c.args.bytes.now (refused c.in_err-rest.field-0.0) = search rules in
    let told : c.from_residual.result ≡ Err c.in_err-rest.field-0.0 = search rules in
    λ fault refuses. told ∙ ap Err (same_fault _ c.args.bytes.now c.in_err-rest.field-0.0 fault outcome refuses)

pub fill-requires-clause-for_factors : goal.fill-requires-clause-for_factors
fill-requires-clause-for_factors c =
    let s = held c.read_lines.new.reader in
    let sheet : IsSheet (lengths c.args.factors.now c.args.shares.now) c.args.bytes.now (held c.read_lines.new.reader) (bytes_of c.in_ok-rest.rest) = reads_ended _ c.args.bytes.now (held c.read_lines.new.reader) (bytes_of c.in_ok-rest.rest) (search rules) in
    omega (arith, sheet.room.for_factors, sheet.lawful.size.factor_places, length-map s.factors pos)

pub fill-requires-clause-for_shares : goal.fill-requires-clause-for_shares
fill-requires-clause-for_shares c =
    let s = held c.read_lines.new.reader in
    let sheet : IsSheet (lengths c.args.factors.now c.args.shares.now) c.args.bytes.now (held c.read_lines.new.reader) (bytes_of c.in_ok-rest.rest) = reads_ended _ c.args.bytes.now (held c.read_lines.new.reader) (bytes_of c.in_ok-rest.rest) (search rules) in
    omega (arith, sheet.room.for_shares, sheet.lawful.size.share_places, length-map s.shares pos)

pub returns-clause-answer : goal.returns-clause-answer
returns-clause-answer c =
    let outcome : Reads (lengths c.args.factors.now c.args.shares.now) nothing_yet start c.args.bytes.now (ends (held c.read_lines.new.reader) (bytes_of c.in_ok-rest.rest)) = search rules in
    let rest = c.in_ok-rest.ensures.rest in
    (held c.read_lines.new.reader, is_read c.args.bytes.now rest.0 c.args.factors.now c.args.shares.now c.fill.new.factors c.fill.new.shares _ (held c.read_lines.new.reader) outcome rest.1 c.states.ensures c.years.ensures c.fill.ensures.factors c.fill.ensures.shares)

pub returns-clause-every_sheet : goal.returns-clause-every_sheet
unfolding returns-clause-answer
returns-clause-every_sheet c =
    let outcome : Reads (lengths c.args.factors.now c.args.shares.now) nothing_yet start c.args.bytes.now (ends (held c.read_lines.new.reader) (bytes_of c.in_ok-rest.rest)) = search rules in
    λ s rest. each_sheet c.args.bytes.now c.args.factors.now c.args.shares.now c.fill.new.factors c.fill.new.shares _ (held c.read_lines.new.reader) s rest outcome (returns-clause-answer c).1

pub returns-clause-every_fault : goal.returns-clause-every_fault
returns-clause-every_fault c =
    let outcome : Reads (lengths c.args.factors.now c.args.shares.now) nothing_yet start c.args.bytes.now (ends (held c.read_lines.new.reader) (bytes_of c.in_ok-rest.rest)) = search rules in
    λ fault refuses. absurd (no_fault _ c.args.bytes.now (held c.read_lines.new.reader) (bytes_of c.in_ok-rest.rest) fault outcome refuses)
