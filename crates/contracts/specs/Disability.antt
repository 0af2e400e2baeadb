-- A disability basis over five years, at three per cent. Assumes nothing.
use Rattle.std.specs.Prelude.{ℕ, List, [], ◌∷◌, map, replicate, ℤ, pos}

-- for each year the shares out of active, disabled and dead
abbrev pub counts : List ℕ
counts =
    987000 ∷ 9000 ∷ 4000 ∷ 30000 ∷ 956000 ∷ 14000 ∷ 0 ∷ 0 ∷ 1000000 ∷
    985500 ∷ 10000 ∷ 4500 ∷ 26000 ∷ 959500 ∷ 14500 ∷ 0 ∷ 0 ∷ 1000000 ∷
    984000 ∷ 11000 ∷ 5000 ∷ 22000 ∷ 963000 ∷ 15000 ∷ 0 ∷ 0 ∷ 1000000 ∷
    982500 ∷ 12000 ∷ 5500 ∷ 18000 ∷ 966500 ∷ 15500 ∷ 0 ∷ 0 ∷ 1000000 ∷
    981000 ∷ 13000 ∷ 6000 ∷ 14000 ∷ 970000 ∷ 16000 ∷ 0 ∷ 0 ∷ 1000000 ∷ []

abbrev pub shares : List ℤ
shares = map pos counts

-- a million over one and three hundredths, to the nearest
abbrev pub factors : List ℤ
factors = map pos (replicate 5 970874)
