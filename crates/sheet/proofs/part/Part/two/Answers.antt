use Rattle.std.proofs.Common.{◌≡◌, suc, ◌∷◌, length, ap, ◌∙◌, arith}
use Rattle.sheet.proofs.Places.{some_parts}
use Rattle.sheet.specs.Fields.{bytes_of, parts_left}
use Rattle.sheet.specs.Lines.{parts}
use Rattle.sheet.proofs.part.Part.two.Goals as goal

pub returns-in_err-rest : goal.returns-in_err-rest
returns-in_err-rest c =
    let one : length (parts (bytes_of c.args.self)) ≡ 1 = ap length (c.cut.ensures.parts ∙ ap (λ r. bytes_of c.cut.result.0 ∷ parts_left r) c.in_err-rest.was) in
    rw c.from_residual.ensures (λ two. omega (arith, one, two))

pub returns-in-Some : goal.returns-in-Some
returns-in-Some c =
    let more = some_parts 59 (bytes_of c.in-Some.field-0) in
    let second = c.cut-2.ensures.parts ∙ ap (λ r. bytes_of c.cut-2.result.0 ∷ parts_left r) c.in-Some.is in
    let all : length (parts (bytes_of c.args.self)) ≡ suc (suc (length (parts (bytes_of c.in-Some.field-0)))) =
    ap length (c.cut.ensures.parts ∙ ap (λ r. bytes_of c.cut.result.0 ∷ parts_left r) c.in_ok-rest.was ∙ ap (λ ps. bytes_of c.cut.result.0 ∷ ps) second) in
    λ two. omega (arith, more, all, two)

pub returns-in-None : goal.returns-in-None
returns-in-None c =
    let second = c.cut-2.ensures.parts ∙ ap (λ r. bytes_of c.cut-2.result.0 ∷ parts_left r) c.in-None.is in
    let rest = rw c.in_ok-rest.was at c.cut.ensures.rest in
    record {
      bytes = c.cut.ensures.parts ∙ ap (λ r. bytes_of c.cut.result.0 ∷ parts_left r) c.in_ok-rest.was ∙ ap (λ ps. bytes_of c.cut.result.0 ∷ ps) second;
      places = (c.cut.ensures.first, (c.cut-2.ensures.first ∙ rest, tt));
    }
