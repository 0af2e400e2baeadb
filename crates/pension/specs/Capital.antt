-- The pension with a capital at death and another at the end, over ten years. Assumes nothing.
use Rattle.std.specs.Prelude.{ℕ, List, ◌∷◌, ◌++◌, map, replicate, ℤ, pos}
use Rattle.std.specs.List.{repeat}

-- 24000 francs a year while disabled, and 10000 francs in year 10 to whoever is alive
abbrev pub benefit_entries : List ℕ
benefit_entries = repeat 10 (0 ∷ 240000000 ∷ replicate 6 0) ++ (100000000 ∷ 100000000 ∷ replicate 6 0)

-- the premium is due while active
abbrev pub mark_entries : List ℕ
mark_entries = repeat 10 (1 ∷ replicate 7 0) ++ replicate 8 0

-- 50000 francs for the move of the active and of the disabled to the dead
abbrev pub move_year : List ℕ
move_year = (0 ∷ 0 ∷ 500000000 ∷ replicate 5 0) ++ ((0 ∷ 0 ∷ 500000000 ∷ replicate 5 0) ++ replicate 48 0)

abbrev pub move_entries : List ℕ
move_entries = repeat 10 move_year

abbrev pub benefits : List ℤ
benefits = map pos benefit_entries

abbrev pub marks : List ℤ
marks = map pos mark_entries

abbrev pub moves : List ℤ
moves = map pos move_entries
