use Rattle.std.proofs.Common.{◌++◌, ◌∷◌, [], rules}
use Rattle.sheet.specs.Fields.{bytes_of}
use Rattle.sheet.specs.FirstLines.{IsFirstLine}
use Rattle.sheet.specs.Lines.{first_line}
use Rattle.sheet.specs.Readers.{held}
use Rattle.sheet.specs.Reading.{refused}
use Rattle.sheet.proofs.Turns.{no_feed, line_breaks, line_ends, line_goes_on, rest_after}
use Rattle.sheet.proofs.read.read_lines.Goals as goal

pub returns-in_err-line-clause-outcome : goal.returns-in_err-line-clause-outcome
returns-in_err-line-clause-outcome c =
    let broken = c.loop-line.invariant.0 (refused c.in_err-line.field-0.0) (no_feed c.args.columns (held c.loop-line.reader) c.loop-line.text c.in_err-line.field-0.0 (search rules) (search rules)) in
    search rules

pub returns-in_err-take-clause-outcome : goal.returns-in_err-take-clause-outcome
returns-in_err-take-clause-outcome c =
    let first : IsFirstLine c.loop-line.text c.in_ok-line.line c.in_ok-line.rest = search rules in
    let broken = c.loop-line.invariant.0 (refused c.in_err-take.field-0.0) (line_breaks c.args.columns (held c.loop-line.reader) c.loop-line.text c.in_ok-line.line c.in_ok-line.rest c.in_err-take.field-0.0 first (search rules)) in
    search rules

pub returns-then-branch-clause-outcome : goal.returns-then-branch-clause-outcome
returns-then-branch-clause-outcome c =
    let first : IsFirstLine c.loop-line.text c.in_ok-line.line c.in_ok-line.rest = search rules in
    c.loop-line.invariant.0 _ (line_ends c.args.columns (held c.loop-line.reader) (held c.take.new.self) c.loop-line.text c.in_ok-line.line c.in_ok-line.rest first (search rules) (search rules) (search rules))

pub returns-then-branch-clause-rest : goal.returns-then-branch-clause-rest
returns-then-branch-clause-rest c =
    let first : IsFirstLine c.loop-line.text c.in_ok-line.line c.in_ok-line.rest = search rules in
    let before = c.loop-line.invariant.1.0 in
    (before ++ (first_line (bytes_of c.loop-line.text) ++ 10 ∷ []), rest_after before c.args.bytes.now c.loop-line.text c.in_ok-line.line c.in_ok-line.rest first c.loop-line.invariant.1.1)

pub loop-line-preserved : goal.loop-line-preserved
loop-line-preserved c =
    let first : IsFirstLine c.loop-line.text c.in_ok-line.line c.in_ok-line.rest = search rules in
    let before = c.loop-line.invariant.1.0 in (
      λ outcome more. c.loop-line.invariant.0 outcome (line_goes_on c.args.columns (held c.loop-line.reader) (held c.take.new.self) c.loop-line.text c.in_ok-line.line c.in_ok-line.rest first (search rules) (search rules) (search rules) outcome more),
      (before ++ (first_line (bytes_of c.loop-line.text) ++ 10 ∷ []), rest_after before c.args.bytes.now c.loop-line.text c.in_ok-line.line c.in_ok-line.rest first c.loop-line.invariant.1.1),
    )
