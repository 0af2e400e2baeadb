-- A life table of two years, in which a tenth and then a fifth of the living die. Assumes nothing.
use Rattle.std.specs.Prelude.{ℕ, List, [], ◌∷◌, map, ℤ, pos}

abbrev pub counts : List ℕ
counts = 100000 ∷ 200000 ∷ []

abbrev pub deaths : List ℤ
deaths = map pos counts

abbrev pub factor : ℤ
factor = pos 900000
