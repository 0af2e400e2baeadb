-- Parts of the input, and fields that follow each other. Assumes nothing.
use Rattle.std.specs.Prelude.{◌≡◌, ℕ, ◌+◌, ⊤, List, [], ◌∷◌, ◌++◌, length, map, Option, Some, None}
use Rattle.sheet.specs.Lines.{parts, further}
use Rattle.sheet.specs.declared.part.Part.{Part}
use Rattle.sheet.specs.declared.spot.Spot.{Spot}

abbrev pub bytes_of : Part → List ℕ
bytes_of part = part.bytes.now

-- the input has the bytes of the part at its offset
pub record StandsIn (input : List ℕ) (part : Part) : Type 0 where
  pub before : List ℕ
  pub after : List ℕ
  pub text : input ≡ before ++ (bytes_of part ++ after)
  pub offset : length before ≡ part.spot.offset

-- and so for each of several
abbrev pub AllStandIn : List ℕ → List Part → Type 0
AllStandIn input [] = ⊤
AllStandIn input (part ∷ more) = StandsIn input part × AllStandIn input more

-- what stands between the semicolons of the rest of a line, if there is one
abbrev pub parts_left : Option Part → List (List ℕ)
parts_left None = []
parts_left (Some rest) = parts (bytes_of rest)

-- the fields follow each other from a spot on, with one semicolon between them
abbrev pub StandFrom : Spot → List Part → Type 0
StandFrom spot [] = ⊤
StandFrom spot (field ∷ more) =
    (field.spot ≡ spot) × StandFrom (further spot (length (bytes_of field) + 1)) more

-- these fields are what stands between the semicolons of a part
pub record AreFields (part : Part) (fields : List Part) : Type 0 where
  pub bytes : parts (bytes_of part) ≡ map bytes_of fields
  pub places : StandFrom part.spot fields
