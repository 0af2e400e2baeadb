use Rattle.std.proofs.Common.{◌==◌, sym, ◌∙◌}
use Rattle.sheet.proofs.Places.{split_found, split_missing}
use Rattle.sheet.proofs.part.Part.cut.Goals as goal

pub returns-in-Some-clause-parts : goal.returns-in-Some-clause-parts
returns-in-Some-clause-parts c = split_found (λ x. x == 59) c.args.self.bytes.now c.in-Some.end 0 (sym c.in-Some.is ∙ c.first_place.ensures)

pub returns-in-None-clause-parts : goal.returns-in-None-clause-parts
returns-in-None-clause-parts c = split_missing (λ x. x == 59) c.args.self.bytes.now (sym c.in-None.is ∙ c.first_place.ensures)
