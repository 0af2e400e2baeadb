use Rattle.std.proofs.Common.{◌≡◌, ◌∷◌, rules}
use Rattle.units.specs.Francs.{francs, two_decimals}
use Rattle.units.proofs.Hundredths.{two_places}
use Rattle.units.proofs.francs.FrancsDisplay.fmt.Goals as goal

pub returns-then-hundredths-lt0-clause-writes : goal.returns-then-hundredths-lt0-clause-writes
returns-then-hundredths-lt0-clause-writes g c =
    let shown : francs c.args.self.now.ticks ≡ 45 ∷ two_decimals c.unsigned_abs-size.result =
    search rules in
    rw shown (rw (c.laid_out.ensures, two_places c.unsigned_abs-size.result)
    at c.write_unpadded.ensures.plain)

pub returns-then-hundredths-lt0-clause-styled : goal.returns-then-hundredths-lt0-clause-styled
returns-then-hundredths-lt0-clause-styled g c =
    let shown : francs c.args.self.now.ticks ≡ 45 ∷ two_decimals c.unsigned_abs-size.result =
    search rules in
    rw shown (rw (c.laid_out.ensures, two_places c.unsigned_abs-size.result)
    at c.write_unpadded.ensures.styled)

pub returns-else-hundredths-lt0-clause-writes : goal.returns-else-hundredths-lt0-clause-writes
returns-else-hundredths-lt0-clause-writes g c =
    let shown : francs c.args.self.now.ticks ≡ two_decimals c.unsigned_abs-size.result =
    search rules in
    rw shown (rw (c.laid_out-else-hundredths-lt0.ensures, two_places c.unsigned_abs-size.result)
    at c.write_unpadded-else-hundredths-lt0.ensures.plain)

pub returns-else-hundredths-lt0-clause-styled : goal.returns-else-hundredths-lt0-clause-styled
returns-else-hundredths-lt0-clause-styled g c =
    let shown : francs c.args.self.now.ticks ≡ two_decimals c.unsigned_abs-size.result =
    search rules in
    rw shown (rw (c.laid_out-else-hundredths-lt0.ensures, two_places c.unsigned_abs-size.result)
    at c.write_unpadded-else-hundredths-lt0.ensures.styled)
