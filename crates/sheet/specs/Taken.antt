-- A sheet read into a table, and why none is. Assumes nothing.
use Rattle.std.specs.Prelude.{◌≡◌, ℕ, List, Result, Ok, Err}
use Rattle.units.specs.declared.fault.Fault.{Fault}
use Rattle.basis.specs.TransitionTables.{transition_table}
use Rattle.basis.specs.declared.table.TransitionTable.{TransitionTable}
use Rattle.sheet.specs.Faults.{Refuses, InText, spot_past}
use Rattle.sheet.specs.Fields.{bytes_of}
use Rattle.sheet.specs.Sheets.{Sheet, IsSheet, basis_of}
use Rattle.sheet.specs.Texts.{text_of}
use Rattle.sheet.specs.declared.columns.Columns.{Columns}
use Rattle.sheet.specs.declared.part.Part.{Part}

-- columns for the most years and states
abbrev pub most : Columns
most = record { factors = 120; shares = 7680 }

-- the bytes are a sheet and the rest, and the table is its basis
pub record IsTaken (bytes : List ℕ) (table : TransitionTable) (rest : Part) (s : Sheet)
    : Type 0 where
  pub sheet : IsSheet most bytes s (bytes_of rest)
  pub basis : transition_table table ≡ basis_of s
  pub spot : rest.spot ≡ spot_past (text_of (basis_of s))

-- a sheet is taken into the table, or the bytes are refused as one and the table is as it was
abbrev pub ReadsInto : List ℕ → TransitionTable → TransitionTable → Result Part Fault → Type 0
ReadsInto bytes old new (Ok rest) = (s : Sheet) × IsTaken bytes new rest s
ReadsInto bytes old new (Err fault) = Refuses most bytes fault × InText 2 8 fault × (new ≡ old)
