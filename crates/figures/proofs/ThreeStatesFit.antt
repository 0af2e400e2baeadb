-- The columns of the disability basis keep the rules of a table. Assumes nothing.
use Rattle.std.proofs.Common.{ℕ, zero, suc, ◌<◌, [], ◌∷◌, map, pos, refl, arith}
use Rattle.units.specs.Ranges.{million}
use Rattle.units.proofs.Ranged.{ranged_between}
use Rattle.basis.specs.TransitionColumns.{LawfulRow, LawfulAt, Fit}
use Rattle.figures.specs.ThreeStates.{factors, shares}

out_of_active : LawfulRow (map pos (900000 ∷ 70000 ∷ 30000 ∷ []))
out_of_active = record { range = ranged_between 0 million (900000 ∷ 70000 ∷ 30000 ∷ []) tt; whole = refl }

out_of_disabled : LawfulRow (map pos (200000 ∷ 750000 ∷ 50000 ∷ []))
out_of_disabled = record { range = ranged_between 0 million (200000 ∷ 750000 ∷ 50000 ∷ []) tt; whole = refl }

out_of_dead : LawfulRow (map pos (0 ∷ 0 ∷ 1000000 ∷ []))
out_of_dead = record { range = ranged_between 0 million (0 ∷ 0 ∷ 1000000 ∷ []) tt; whole = refl }

-- the row of each state in each year
rows : (i t : ℕ) → i < 3 → t < 3 → LawfulAt 3 shares i t
rows zero zero state year = out_of_active
rows zero (suc zero) state year = out_of_active
rows zero (suc (suc zero)) state year = out_of_active
rows zero (suc (suc (suc t))) state year = absurd (omega (arith, year))
rows (suc zero) zero state year = out_of_disabled
rows (suc zero) (suc zero) state year = out_of_disabled
rows (suc zero) (suc (suc zero)) state year = out_of_disabled
rows (suc zero) (suc (suc (suc t))) state year = absurd (omega (arith, year))
rows (suc (suc zero)) zero state year = out_of_dead
rows (suc (suc zero)) (suc zero) state year = out_of_dead
rows (suc (suc zero)) (suc (suc zero)) state year = out_of_dead
rows (suc (suc zero)) (suc (suc (suc t))) state year = absurd (omega (arith, year))
rows (suc (suc (suc i))) t state year = absurd (omega (arith, state))

pub three_states_fit : Fit 3 3 factors shares
three_states_fit = record {
  size = record { least_states = omega arith; most_states = omega arith; least_years = omega arith; most_years = omega arith; factor_places = refl; share_places = refl };
  discount = ranged_between 1 million (970000 ∷ 970000 ∷ 970000 ∷ []) tt;
  rows = rows;
}
