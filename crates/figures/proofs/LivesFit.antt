-- The columns of both life tables keep the rules. Assumes nothing.
use Rattle.std.proofs.Common.{arith}
use borrow.Author.Differences.{ints}
use Rattle.units.specs.Ranges.{million}
use Rattle.units.proofs.Ranged.{ranged_between}
use Rattle.basis.specs.LifeColumns.{Fit}
use Rattle.figures.specs.Lives
use Rattle.figures.specs.TwoYears

pub longest_fit : Fit Lives.deaths Lives.factor
longest_fit = record {
  years = record { some = omega arith; few = omega arith };
  discount = record { least = omega (arith, ints); most = omega (arith, ints) };
  shares = ranged_between 0 million Lives.counts tt;
}

pub two_years_fit : Fit TwoYears.deaths TwoYears.factor
two_years_fit = record {
  years = record { some = omega arith; few = omega arith };
  discount = record { least = omega (arith, ints); most = omega (arith, ints) };
  shares = ranged_between 0 million TwoYears.counts tt;
}
