-- Lines with their fields, and the bytes that they stand for. Assumes nothing.
use Rattle.std.specs.Prelude.{◌≡◌, ℕ, List, [], ◌∷◌, map}
use Rattle.sheet.specs.Fields.{bytes_of, StandFrom}
use Rattle.sheet.specs.Lines.{parts, further}
use Rattle.sheet.specs.declared.part.Part.{Part}
use Rattle.sheet.specs.declared.line.Line.{Line}
use Rattle.sheet.specs.declared.line.Line.TheVariants.{Basis, Year, Move, End, Issue, Close, Alter, Leave}

abbrev pub letter : Line → ℕ
letter (Basis states years) = 66
letter (Year year factor) = 68
letter (Move year from to share) = 84
letter End = 69
letter (Issue sum term paying_years deposit) = 81
letter (Close state rate) = 67
letter (Alter sum term paying_years) = 65
letter Leave = 76

abbrev pub fields : Line → List Part
fields (Basis states years) = states ∷ years ∷ []
fields (Year year factor) = year ∷ factor ∷ []
fields (Move year from to share) = year ∷ from ∷ to ∷ share ∷ []
fields End = []
fields (Issue sum term paying_years deposit) = sum ∷ term ∷ paying_years ∷ deposit ∷ []
fields (Close state rate) = state ∷ rate ∷ []
fields (Alter sum term paying_years) = sum ∷ term ∷ paying_years ∷ []
fields Leave = []

-- a part of the input is the letter and the fields of the line
pub record IsLine (whole : Part) (line : Line) : Type 0 where
  pub text : parts (bytes_of whole) ≡ (letter line ∷ []) ∷ map bytes_of (fields line)
  pub places : StandFrom (further whole.spot 2) (fields line)
