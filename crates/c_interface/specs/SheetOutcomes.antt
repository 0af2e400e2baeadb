-- What C is told of a sheet, and what reading one leaves in the columns. Assumes nothing.
use Rattle.std.specs.Prelude.{◌≡◌, ℕ, ◌≤◌, List, ℤ}
use Rattle.units.specs.Faults.{text_fault}
use Rattle.units.specs.declared.fault.Fault.{Fault}
use Rattle.sheet.specs.Faults.{Refuses, spot_past}
use Rattle.sheet.specs.Readings.{lengths, filled}
use Rattle.sheet.specs.Sheets.{Sheet, IsSheet, basis_of}
use Rattle.sheet.specs.Texts.{text_of}
use Rattle.sheet.specs.declared.spot.Spot.{Spot}
use Rattle.c_interface.specs.declared.sheets.SheetReport.{SheetReport}

-- the numbers of a sheet, and a spot
abbrev pub report_at : ℕ → ℕ → Spot → SheetReport
report_at states years spot = record {
  states = states;
  years = years;
  line = spot.line;
  offset = spot.offset;
}

module _ (bytes : List ℕ) (factors shares new_factors new_shares : List ℤ)
    (report new_report : SheetReport) (answer : ℕ) where
  -- the bytes are the sheet and the rest: the columns hold its basis, and told are its numbers and
  -- where the rest begins
  pub record IsSheetRead (s : Sheet) (rest : List ℕ) : Type 0 where
    pub done : answer ≡ 0
    pub sheet : IsSheet (lengths factors shares) bytes s rest
    pub factors_filled : new_factors ≡ filled s.factors factors
    pub shares_filled : new_shares ≡ filled s.shares shares
    pub told : new_report ≡ report_at s.states s.years (spot_past (text_of (basis_of s)))

  -- the bytes are refused with the fault: its number, line and offset are told, and all else is as
  -- it was
  pub record IsSheetRefused (fault : Fault) : Type 0 where
    pub refuses : Refuses (lengths factors shares) bytes fault
    pub least : 2 ≤ answer
    pub most : answer ≤ 8
    pub told : fault ≡ text_fault answer fault.layer new_report.line new_report.offset
    pub numbers_kept : (new_report.states ≡ report.states) × (new_report.years ≡ report.years)
    pub columns_kept : (new_factors ≡ factors) × (new_shares ≡ shares)

  pub data SheetOutcome : Type 0 where
    sheet_read : (s : Sheet) (rest : List ℕ) → IsSheetRead s rest → SheetOutcome
    sheet_refused : (fault : Fault) → IsSheetRefused fault → SheetOutcome
