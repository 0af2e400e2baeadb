-- The columns of the disability basis keep the rules of a table. Assumes nothing.
use Rattle.std.proofs.Common.{zero, suc, [], ◌∷◌, map, replicate, pos, refl, arith}
use Rattle.units.specs.Ranges.{million}
use Rattle.units.proofs.Ranged.{ranged_between}
use Rattle.basis.specs.TransitionColumns.{LawfulRow, LawfulRows, Fit}
use Rattle.contracts.specs.Disability.{factors, shares}

out_of_dead : LawfulRow (map pos (0 ∷ 0 ∷ 1000000 ∷ []))
out_of_dead = record { range = ranged_between 0 million (0 ∷ 0 ∷ 1000000 ∷ []) tt; whole = refl }

rows : LawfulRows 3 5 shares
rows zero zero state year = record { range = ranged_between 0 million (987000 ∷ 9000 ∷ 4000 ∷ []) tt; whole = refl }
rows zero (suc zero) state year = record { range = ranged_between 0 million (985500 ∷ 10000 ∷ 4500 ∷ []) tt; whole = refl }
rows zero (suc (suc zero)) state year = record { range = ranged_between 0 million (984000 ∷ 11000 ∷ 5000 ∷ []) tt; whole = refl }
rows zero (suc (suc (suc zero))) state year = record { range = ranged_between 0 million (982500 ∷ 12000 ∷ 5500 ∷ []) tt; whole = refl }
rows zero (suc (suc (suc (suc zero)))) state year = record { range = ranged_between 0 million (981000 ∷ 13000 ∷ 6000 ∷ []) tt; whole = refl }
rows zero (suc (suc (suc (suc (suc t))))) state year = absurd (omega (arith, year))
rows (suc zero) zero state year = record { range = ranged_between 0 million (30000 ∷ 956000 ∷ 14000 ∷ []) tt; whole = refl }
rows (suc zero) (suc zero) state year = record { range = ranged_between 0 million (26000 ∷ 959500 ∷ 14500 ∷ []) tt; whole = refl }
rows (suc zero) (suc (suc zero)) state year = record { range = ranged_between 0 million (22000 ∷ 963000 ∷ 15000 ∷ []) tt; whole = refl }
rows (suc zero) (suc (suc (suc zero))) state year = record { range = ranged_between 0 million (18000 ∷ 966500 ∷ 15500 ∷ []) tt; whole = refl }
rows (suc zero) (suc (suc (suc (suc zero)))) state year = record { range = ranged_between 0 million (14000 ∷ 970000 ∷ 16000 ∷ []) tt; whole = refl }
rows (suc zero) (suc (suc (suc (suc (suc t))))) state year = absurd (omega (arith, year))
rows (suc (suc zero)) zero state year = out_of_dead
rows (suc (suc zero)) (suc zero) state year = out_of_dead
rows (suc (suc zero)) (suc (suc zero)) state year = out_of_dead
rows (suc (suc zero)) (suc (suc (suc zero))) state year = out_of_dead
rows (suc (suc zero)) (suc (suc (suc (suc zero)))) state year = out_of_dead
rows (suc (suc zero)) (suc (suc (suc (suc (suc t))))) state year = absurd (omega (arith, year))
rows (suc (suc (suc i))) t state year = absurd (omega (arith, state))

pub disability_fit : Fit 3 5 factors shares
disability_fit = record {
  size = record { least_states = omega arith; most_states = omega arith; least_years = omega arith; most_years = omega arith; factor_places = refl; share_places = refl };
  discount = ranged_between 1 million (replicate 5 970874) tt;
  rows = rows;
}
