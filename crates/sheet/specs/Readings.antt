-- What reading a sheet answers, and what it leaves in the columns. Assumes nothing.
use Rattle.std.specs.Prelude.{◌≡◌, List, ◌++◌, map, length, drop, ℤ, pos, ℕ, Result, Ok, Err}
use Rattle.units.specs.declared.fault.Fault.{Fault}
use Rattle.sheet.specs.Faults.{Refuses, spot_past}
use Rattle.sheet.specs.Fields.{bytes_of}
use Rattle.sheet.specs.Lines.{start}
use Rattle.sheet.specs.Reading.{Reads, ends, refused, nothing_yet}
use Rattle.sheet.specs.Sheets.{Sheet, IsSheet, basis_of}
use Rattle.sheet.specs.Texts.{text_of}
use Rattle.sheet.specs.declared.columns.Columns.{Columns}
use Rattle.sheet.specs.declared.part.Part.{Part}
use Rattle.sheet.specs.declared.reading.Reading.{Reading}

-- how many entries two columns have
abbrev pub lengths : List ℤ → List ℤ → Columns
lengths factors shares = record { factors = length factors; shares = length shares }

-- a column with these numbers in its first places, and every other place as it was
abbrev pub filled : List ℕ → List ℤ → List ℤ
filled numbers column = map pos numbers ++ drop (length numbers) column

-- a part of the input is what is left after some bytes of it
abbrev pub IsRestAfter : List ℕ → List ℕ → Part → Type 0
IsRestAfter before bytes rest = (bytes ≡ before ++ bytes_of rest) × (rest.spot ≡ spot_past before)

-- the bytes, read line by line, end with the sheet after them and leave a rest, or are refused
abbrev pub ReadsLines : Columns → List ℕ → Sheet → Result Part Fault → Type 0
ReadsLines columns bytes after (Ok rest) =
    Reads columns nothing_yet start bytes (ends after (bytes_of rest))
ReadsLines columns bytes after (Err fault) = Reads columns nothing_yet start bytes (refused fault)

-- the bytes are a sheet and the rest, the answer has its numbers, and the columns hold its basis
pub record IsRead (bytes : List ℕ) (factors shares factors_after shares_after : List ℤ)
    (reading : Reading) (s : Sheet) : Type 0 where
  pub sheet : IsSheet (lengths factors shares) bytes s (bytes_of reading.rest)
  pub states : reading.states ≡ s.states
  pub years : reading.years ≡ s.years
  pub rest : reading.rest.spot ≡ spot_past (text_of (basis_of s))
  pub factors_filled : factors_after ≡ filled s.factors factors
  pub shares_filled : shares_after ≡ filled s.shares shares

-- a sheet is read into the columns, or the bytes are refused as one and the columns stay
abbrev pub ReadsSheet : List ℕ → List ℤ → List ℤ → List ℤ → List ℤ → Result Reading Fault → Type 0
ReadsSheet bytes factors shares factors_after shares_after (Ok reading) =
    (s : Sheet) × IsRead bytes factors shares factors_after shares_after reading s
ReadsSheet bytes factors shares factors_after shares_after (Err fault) =
    Refuses (lengths factors shares) bytes fault
    × (factors_after ≡ factors)
    × (shares_after ≡ shares)
