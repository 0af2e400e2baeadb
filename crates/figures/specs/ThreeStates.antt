-- A disability basis over three years that are all alike. Assumes nothing.
use Rattle.std.specs.Prelude.{ℕ, List, [], ◌∷◌, map, replicate, ℤ, pos}
use Rattle.std.specs.List.{repeat}

-- the shares out of active, disabled and dead
abbrev pub counts : List ℕ
counts = 900000 ∷ 70000 ∷ 30000 ∷ 200000 ∷ 750000 ∷ 50000 ∷ 0 ∷ 0 ∷ 1000000 ∷ []

abbrev pub shares : List ℤ
shares = repeat 3 (map pos counts)

abbrev pub factors : List ℤ
factors = map pos (replicate 3 970000)
