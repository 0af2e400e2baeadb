-- Which fault a sheet is refused with. Assumes nothing.
use Rattle.std.specs.Prelude.{◌≡◌, ℕ, ◌+◌, ◌*◌, ◌<◌, ◌≤◌, ◌⊎◌, List, [], ◌∷◌, ◌++◌, length, map, pos, Some, count_by, slice_index}
use Rattle.units.specs.Columns.{AllBetween}
use Rattle.units.specs.Faults.{text_fault}
use Rattle.units.specs.Ranges.{million}
use Rattle.units.specs.declared.fault.Fault.{Fault}
use Rattle.sheet.specs.Checks.{first_broken, line_checks, row_total}
use Rattle.sheet.specs.Lines.{is_line_feed}
use Rattle.sheet.specs.Reading.{nothing_yet}
use Rattle.sheet.specs.declared.columns.Columns.{Columns}
use Rattle.sheet.specs.Sheets.{Sheet, Suffice, basis_of}
use Rattle.sheet.specs.Texts.{line_text, years_text}
use Rattle.sheet.specs.declared.spot.Spot.{Spot}

-- `B;m;n`, and the years that have come
abbrev pub text_so_far : Sheet → List ℕ
text_so_far s = line_text 66 (s.states ∷ s.years ∷ []) ++ years_text (basis_of s) (length s.factors)

-- a part of a lawful basis: some of its years, the last with some of its moves, up to one with a share
pub record Begun (columns : Columns) (s : Sheet) : Type 0 where
  pub least_states : 2 ≤ s.states
  pub most_states : s.states ≤ 8
  pub least_years : 1 ≤ s.years
  pub most_years : s.years ≤ 120
  pub room : Suffice columns s.states s.years
  pub years_come : length s.factors ≤ s.years
  pub discount : AllBetween (pos 1) (pos million) (map pos s.factors)
  pub range : AllBetween (pos 0) (pos million) (map pos s.shares)
  pub places : length s.shares ≤ length s.factors * s.states * s.states
  pub last : (k : ℕ) → length s.shares ≡ k + 1 → 1 ≤ slice_index s.shares k
  pub rows : (i t : ℕ) → i < s.states → t + 1 < length s.factors → row_total s t i ≡ million

-- the lines that have been read are those of the sheet so far, and break no rule
abbrev pub SaysSoFar : Columns → Sheet → List ℕ → Type 0
SaysSoFar columns s before = ((s ≡ nothing_yet) × (before ≡ [])) ⊎ (Begun columns s × (before ≡ text_so_far s))

-- the spot after some whole lines
abbrev pub spot_past : List ℕ → Spot
spot_past before = record { line = count_by is_line_feed before + 1; offset = length before }

-- the lines before it break no rule, and the next line breaks one: the first such rule tells the fault
pub record Refuses (columns : Columns) (bytes : List ℕ) (fault : Fault) : Type 0 where
  pub sheet : Sheet
  pub before : List ℕ
  pub after : List ℕ
  pub split : bytes ≡ before ++ after
  pub kept : SaysSoFar columns sheet before
  pub broken : first_broken (line_checks columns sheet (spot_past before) after) ≡ Some fault

-- a fault that is told at a byte of a line, under a number in a range
pub record InText (least most : ℕ) (fault : Fault) : Type 0 where
  pub line : ℕ
  pub offset : ℕ
  pub is : fault ≡ text_fault fault.number fault.layer line offset
  pub from : least ≤ fault.number
  pub to : fault.number ≤ most
