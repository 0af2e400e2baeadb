-- The table keeps the rules of a life table. Assumes nothing.
use Rattle.std.proofs.Common.{arith}
use borrow.Author.Differences.{ints}
use Rattle.units.specs.Ranges.{million}
use Rattle.units.proofs.Ranged.{ranged_between}
use Rattle.basis.specs.LifeColumns.{Fit}
use Rattle.page.specs.SwissMen.{counts, deaths, factor}

pub fit : Fit deaths factor
fit = record {
  years = record { some = omega arith; few = omega arith };
  discount = record { least = omega (arith, ints); most = omega (arith, ints) };
  shares = ranged_between 0 million counts tt;
}
