-- A disability basis over ten years, at three and a half per cent. Assumes nothing.
use Rattle.std.specs.Prelude.{ℕ, List, [], ◌∷◌, map, replicate, ℤ, pos}

-- for each year the shares out of active, disabled and dead
abbrev pub counts : List ℕ
counts =
    995100 ∷ 3400 ∷ 1500 ∷ 50000 ∷ 940500 ∷ 9500 ∷ 0 ∷ 0 ∷ 1000000 ∷
    994360 ∷ 3850 ∷ 1790 ∷ 47500 ∷ 942710 ∷ 9790 ∷ 0 ∷ 0 ∷ 1000000 ∷
    993620 ∷ 4300 ∷ 2080 ∷ 45000 ∷ 944920 ∷ 10080 ∷ 0 ∷ 0 ∷ 1000000 ∷
    992880 ∷ 4750 ∷ 2370 ∷ 42500 ∷ 947130 ∷ 10370 ∷ 0 ∷ 0 ∷ 1000000 ∷
    992140 ∷ 5200 ∷ 2660 ∷ 40000 ∷ 949340 ∷ 10660 ∷ 0 ∷ 0 ∷ 1000000 ∷
    991400 ∷ 5650 ∷ 2950 ∷ 37500 ∷ 951550 ∷ 10950 ∷ 0 ∷ 0 ∷ 1000000 ∷
    990660 ∷ 6100 ∷ 3240 ∷ 35000 ∷ 953760 ∷ 11240 ∷ 0 ∷ 0 ∷ 1000000 ∷
    989920 ∷ 6550 ∷ 3530 ∷ 32500 ∷ 955970 ∷ 11530 ∷ 0 ∷ 0 ∷ 1000000 ∷
    989180 ∷ 7000 ∷ 3820 ∷ 30000 ∷ 958180 ∷ 11820 ∷ 0 ∷ 0 ∷ 1000000 ∷
    988440 ∷ 7450 ∷ 4110 ∷ 27500 ∷ 960390 ∷ 12110 ∷ 0 ∷ 0 ∷ 1000000 ∷ []

abbrev pub shares : List ℤ
shares = map pos counts

-- a million over one and seven two-hundredths, to the nearest
abbrev pub factors : List ℤ
factors = map pos (replicate 10 966184)
