use Rattle.std.proofs.Common.{rules}
use Rattle.basis.specs.LifeColumns.{unfit_share}
use Rattle.basis.proofs.life.make.check.Goals as goal

pub returns-in-Some : goal.returns-in-Some
returns-in-Some c =
    let first = rw c.from-2.ensures at c.in-Some.ensures in
    unfit_share c.in-Some.year (search rules) (search rules) (search rules) first
