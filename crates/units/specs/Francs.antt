-- An amount in francs with two decimals. Assumes nothing.
use Rattle.std.specs.Prelude.{ℕ, suc, ◌/◌, ◌%◌, List, ◌∷◌, ◌++◌, ℤ, pos, negsuc, decimal}
use Rattle.units.specs.Rounding.{rounded}

-- ticks in hundredths of a franc, to the nearest, halves upwards
abbrev pub hundredths : ℤ → ℤ
hundredths = rounded 100

-- so many hundredths, with a point and two digits after it
abbrev pub two_decimals : ℕ → List ℕ
two_decimals n = decimal (n / 100) ++ (46 ∷ (decimal (n / 10 % 10) ++ decimal (n % 10)))

abbrev pub signed_decimals : ℤ → List ℕ
signed_decimals (pos n) = two_decimals n
signed_decimals (negsuc n) = 45 ∷ two_decimals (suc n)

abbrev pub francs : ℤ → List ℕ
francs ticks = signed_decimals (hundredths ticks)
