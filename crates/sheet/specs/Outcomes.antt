-- What is read of a part of the input, and the fault that is told otherwise. Assumes nothing.
use Rattle.std.specs.Prelude.{◌≡◌, ℕ, ◌≤◌, Bool, false, true, ℤ, Result, Ok, Err, Some, None}
use Rattle.std.specs.Str.Parse.{digits_value}
use Rattle.units.specs.Faults.{text_fault}
use Rattle.units.specs.declared.fault.Fault.{Fault}
use Rattle.units.specs.declared.fault.Layer.TheVariants.{Field, Sheet as Whole}
use Rattle.sheet.specs.Checks.{range, in_range, ends_in_time, first_broken, part_checks, made_by, ends_sheet}
use Rattle.sheet.specs.Fields.{bytes_of}
use Rattle.sheet.specs.FirstLines.{IsFirstLine}
use Rattle.sheet.specs.Lines.{parts, has_form}
use Rattle.sheet.specs.Numerals.{is_number, Writes, WritesSigned}
use Rattle.sheet.specs.Sheets.{Sheet}
use Rattle.sheet.specs.SplitLines.{IsLine}
use Rattle.sheet.specs.declared.columns.Columns.{Columns}
use Rattle.sheet.specs.declared.line.Line.{Line}
use Rattle.sheet.specs.declared.part.Part.{Part}

-- a part is a number by the rule, and this one, or it is none
abbrev pub IsNumberByRule : Part → Result ℕ Fault → Type 0
IsNumberByRule part (Ok n) =
    (is_number (bytes_of part) ≡ true) × (n ≡ digits_value 10 (bytes_of part))
IsNumberByRule part (Err _) = is_number (bytes_of part) ≡ false

-- a part writes this number; or it writes none, and 4 is told of the field
abbrev pub ReadsNumber : Part → Result ℕ Fault → Type 0
ReadsNumber part (Ok n) = Writes (bytes_of part) n
ReadsNumber part (Err fault) =
    ((n : ℕ) → Writes (bytes_of part) n → ⊥)
    × (fault ≡ text_fault 4 Field part.spot.line part.spot.offset)

-- the same of a number that may be below nought
abbrev pub ReadsSigned : Part → Result ℤ Fault → Type 0
ReadsSigned part (Ok z) = WritesSigned (bytes_of part) z
ReadsSigned part (Err fault) =
    ((z : ℤ) → WritesSigned (bytes_of part) z → ⊥)
    × (fault ≡ text_fault 4 Field part.spot.line part.spot.offset)

-- the number of a field lies from the low to the high one; or it does not, and 5 is told of that
abbrev pub IsWithin : Part → ℕ → ℕ → ℕ → Result ℕ Fault → Type 0
IsWithin part number low high (Ok n) = (n ≡ number) × (low ≤ n) × (n ≤ high)
IsWithin part number low high (Err fault) =
    (in_range (range low high) number ≡ false)
    × (fault ≡ text_fault 5 Field part.spot.line part.spot.offset)

-- a text is cut after its first line; or that does not end in time, and 2 is told where it begins
abbrev pub CutsLine : Part → Result (Part × Part) Fault → Type 0
CutsLine text (Ok parts) = IsFirstLine text parts.0 parts.1
CutsLine text (Err fault) =
    (ends_in_time (bytes_of text) ≡ false)
    × (fault ≡ text_fault 2 Whole text.spot.line text.spot.offset)

-- a part is this line; or it has the form of none, and 3 is told where it begins
abbrev pub SplitsLine : Part → Result Line Fault → Type 0
SplitsLine whole (Ok line) = IsLine whole line
SplitsLine whole (Err fault) =
    (has_form (parts (bytes_of whole)) ≡ false)
    × (fault ≡ text_fault 3 Whole whole.spot.line whole.spot.offset)

-- a line breaks no rule after the sheet so far, which it leads on, and it may be the last; or its
-- first breach is told
abbrev pub LeadsOn : Columns → Sheet → Part → Sheet → Result Bool Fault → Type 0
LeadsOn columns before line after (Ok ends) =
    (first_broken (part_checks columns before line.spot (parts (bytes_of line))) ≡ None)
    × (after ≡ made_by columns before line.spot (parts (bytes_of line)))
    × (ends ≡ ends_sheet (parts (bytes_of line)))
LeadsOn columns before line after (Err fault) =
    first_broken (part_checks columns before line.spot (parts (bytes_of line))) ≡ Some fault
