-- The parts of a line. Assumes nothing.
use Rattle.std.specs.Prelude.{ℕ, ◌+◌, Bool, false, ◌&&◌, ◌||◌, List, [], ◌∷◌, length, ◌==◌}
use Rattle.std.specs.List.{slice_split, before_first, after_first}
use Rattle.sheet.specs.declared.spot.Spot.{Spot}

-- the first byte of all
abbrev pub start : Spot
start = record { line = 1; offset = 0 }

-- some bytes further on in the same line
abbrev pub further : Spot → ℕ → Spot
further spot bytes = record { line = spot.line; offset = spot.offset + bytes }

-- the bytes up to the first line feed, and those after it
abbrev pub is_line_feed : ℕ → Bool
is_line_feed byte = byte == 10

abbrev pub first_line : List ℕ → List ℕ
first_line bytes = before_first is_line_feed bytes

abbrev pub after_line : List ℕ → List ℕ
after_line bytes = after_first is_line_feed bytes

-- the start of the line after the first one
abbrev pub spot_after : Spot → List ℕ → Spot
spot_after spot bytes = record { line = spot.line + 1; offset = spot.offset + (length (first_line bytes) + 1) }

-- what stands between the semicolons
abbrev pub parts : List ℕ → List (List ℕ)
parts line = slice_split (λ byte. byte == 59) line

-- the one letter that a part is, or nought
abbrev pub letter_of : List ℕ → ℕ
letter_of [] = 0
letter_of (c ∷ []) = c
letter_of (c ∷ (d ∷ ds)) = 0

-- a line of this letter has so many fields: B, D, T, E, Q, C, A, L
abbrev pub has_fields : ℕ → ℕ → Bool
has_fields letter fields =
    (letter == 66 && fields == 2) || ((letter == 68 && fields == 2) || ((letter == 84 && fields == 4) || ((letter == 69 && fields == 0) || ((letter == 81 && fields == 4) || ((letter == 67 && fields == 2) || ((letter == 65 && fields == 3) || (letter == 76 && fields == 0)))))))

-- the parts are a letter and as many fields as it has
abbrev pub has_form : List (List ℕ) → Bool
has_form [] = false
has_form (head ∷ fields) = has_fields (letter_of head) (length fields)
