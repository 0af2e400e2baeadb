-- The longest life table, of which a thousand in a million die in year 0 and five thousand more in each later year. Assumes nothing.
use Rattle.std.specs.Prelude.{ℕ, ◌+◌, ◌*◌, List, map, ℤ, pos}
use Rattle.std.specs.List.{range_with_len}

abbrev pub counts : List ℕ
counts = map (λ t. 1000 + 5000 * t) (range_with_len 0 120)

abbrev pub deaths : List ℤ
deaths = map pos counts

-- a million over one and a fiftieth, to the nearest
abbrev pub factor : ℤ
factor = pos 980392
