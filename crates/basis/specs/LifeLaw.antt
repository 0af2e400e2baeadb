-- A life table is a lawful basis, whatever value it has. Assumes nothing.
use Rattle.std.proofs.Common.{ℕ, ◌<◌, ◌≤◌, length, pos, vec_items, refl, arith}
use Rattle.std.specs.List.{slice_index}
use Rattle.std.proofs.lemmas.Bool.Decides.{nat_tests}
use Rattle.std.proofs.lemmas.Int.{ints}
use Rattle.std.proofs.lemmas.List.{length-map}
use Rattle.units.specs.Ranges.{million}
use Rattle.units.proofs.Ranged.{kept_between}
use Rattle.basis.specs.Transitions.{Lawful}
use Rattle.basis.specs.LifeTables.{life_table}
use Rattle.basis.specs.declared.life.LifeTable.{LifeTable}

pub life_table_lawful : (s : LifeTable) → Lawful (life_table s)
life_table_lawful s =
    let years = s.fit.years in
    let least = s.fit.discount.least in
    let most = s.fit.discount.most in
    let dead : (t : ℕ) → t < length (vec_items s.deaths) → slice_index (vec_items s.deaths) t ≤ million = λ t inside. (kept_between (vec_items s.deaths) _ 0 million refl s.fit.shares t inside).1 in
    record {
      least_states = omega arith;
      most_states = omega arith;
      least_years = omega (arith, years.some, length-map (vec_items s.deaths) pos);
      most_years = omega (arith, years.few, length-map (vec_items s.deaths) pos);
      least_factor = λ t. grind (arith, ints, nat_tests);
      most_factor = λ t. grind (arith, ints, nat_tests);
      row = λ i t h k. let share = dead t k in grind (arith, nat_tests);
      factor_after = λ t k. grind (arith, nat_tests);
      share_after = λ i j t k. grind (arith, nat_tests);
      share_from_outside = λ i j t k. grind (arith, nat_tests);
      share_to_outside = λ i j t k. grind (arith, nat_tests);
    }
