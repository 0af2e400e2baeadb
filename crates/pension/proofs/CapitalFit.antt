-- The columns of the pension with a capital keep the rules of a table. Assumes nothing.
use Rattle.std.proofs.Common.{◌≡◌, List, ℤ, refl, arith}
use Rattle.units.specs.Ranges.{limit}
use Rattle.units.proofs.Ranged.{ranged_between}
use Rattle.plan.specs.PaymentColumns.{Fit}
use Rattle.plan.specs.PaymentTables.{Holds}
use Rattle.plan.specs.declared.table.PaymentTable.{PaymentTable}
use Rattle.pension.specs.Capital.{benefit_entries, mark_entries, move_entries, benefits, marks, moves}

capital_fit : Fit 10 benefits marks moves
capital_fit = record {
  size = record { few = omega arith; benefit_places = refl; mark_places = refl; move_places = refl };
  amounts = ranged_between 0 limit benefit_entries tt;
  signs = ranged_between 0 1 mark_entries tt;
  transfers = ranged_between 0 limit move_entries tt;
}

-- the same of columns that equal them
pub fits_as_capital : {b m v : List ℤ} → b ≡ benefits → m ≡ marks → v ≡ moves → Fit 10 b m v
fits_as_capital b m v = rw (b, m, v) capital_fit

pub holds_capital : {b m v : List ℤ} (s : PaymentTable) → b ≡ benefits → m ≡ marks → v ≡ moves → Holds s 10 b m v → Holds s 10 benefits marks moves
holds_capital s b m v holds = rw (← b, ← m, ← v) holds
