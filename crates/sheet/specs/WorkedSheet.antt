-- A basis of two states and two years, and its text. Assumes nothing.
use Rattle.std.specs.Prelude.{[], ◌∷◌, codes, List, ℕ}
use Rattle.sheet.specs.Sheets.{Sheet}

abbrev pub worked_sheet : Sheet
worked_sheet = record {
  states = 2;
  years = 2;
  factors = 900000 ∷ 900000 ∷ [];
  shares = 900000 ∷ 100000 ∷ 0 ∷ 1000000 ∷ 800000 ∷ 200000 ∷ 0 ∷ 1000000 ∷ [];
}

-- the bytes of this sheet
abbrev pub worked_text : List ℕ
worked_text = codes "B;2;2\nD;0;900000\nT;0;0;0;900000\nT;0;0;1;100000\nT;0;1;1;1000000\nD;1;900000\nT;1;0;0;800000\nT;1;0;1;200000\nT;1;1;1;1000000\nE\n"
