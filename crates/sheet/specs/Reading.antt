-- A sheet read line by line. Assumes nothing.
use Rattle.std.specs.Prelude.{◌≡◌, ℕ, true, false, List, [], Some, None}
use Rattle.units.specs.declared.fault.Fault.{Fault}
use Rattle.sheet.specs.Checks.{first_broken, line_checks, made_by, ends_sheet}
use Rattle.sheet.specs.Lines.{first_line, after_line, spot_after, parts}
use Rattle.sheet.specs.declared.columns.Columns.{Columns}
use Rattle.sheet.specs.Sheets.{Sheet}
use Rattle.sheet.specs.declared.spot.Spot.{Spot}

-- before its first line, a sheet says nothing
abbrev pub nothing_yet : Sheet
nothing_yet = record { states = 0; years = 0; factors = []; shares = [] }

pub data Outcome : Type 0 where
  ends : Sheet → List ℕ → Outcome
  refused : Fault → Outcome

-- the sheet so far, with the first line of the bytes, and the spot and the bytes after that line
abbrev pub with_line : Columns → Sheet → Spot → List ℕ → Sheet
with_line columns s spot bytes = made_by columns s spot (parts (first_line bytes))

-- the bytes at a spot, read on from the sheet so far, come to an outcome
pub data Reads (columns : Columns) : Sheet → Spot → List ℕ → Outcome → Type 0 where
  breaks : (s : Sheet) (spot : Spot) (bytes : List ℕ) (fault : Fault) → first_broken (line_checks columns s spot bytes) ≡ Some fault → Reads columns s spot bytes (refused fault)
  ends_here : (s : Sheet) (spot : Spot) (bytes : List ℕ) → first_broken (line_checks columns s spot bytes) ≡ None → ends_sheet (parts (first_line bytes)) ≡ true → Reads columns s spot bytes (ends (with_line columns s spot bytes) (after_line bytes))
  goes_on : (s : Sheet) (spot : Spot) (bytes : List ℕ) (outcome : Outcome) → first_broken (line_checks columns s spot bytes) ≡ None → ends_sheet (parts (first_line bytes)) ≡ false → Reads columns (with_line columns s spot bytes) (spot_after spot bytes) (after_line bytes) outcome → Reads columns s spot bytes outcome
