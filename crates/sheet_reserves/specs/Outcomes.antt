-- Which page an input has, and why it has none. Assumes nothing.
use Rattle.std.specs.Prelude.{◌≡◌, ℕ, ◌<◌, ◌≤◌, ⊤, List, length, pos, Result, Ok, Err}
use Rattle.std.specs.String.{string_bytes}
use Rattle.std.specs.declared.string.String.{String}
use Rattle.units.specs.Faults.{text_fault}
use Rattle.units.specs.declared.failure.Failure.{Failure}
use Rattle.units.specs.declared.failure.Failure.TheVariants.{NoMemory, Refused}
use Rattle.units.specs.declared.fault.Fault.{Fault}
use Rattle.units.specs.declared.fault.Layer.TheVariants.{Sheet as Whole}
use Rattle.valuation.specs.Premiums.{LeastPremium, NoPremium}
use Rattle.sheet.specs.Faults.{Refuses}
use Rattle.sheet.specs.Sheets.{Sheet, IsSheet, basis_of}
use Rattle.sheet.specs.Taken.{most}
use Rattle.streams.specs.Streams.{most_bytes}
use Rattle.sheet_reserves.specs.Pages.{page, plan_over}

-- the bytes are a sheet and a rest, and the text is the page at the least premium with which the
-- reserve at the start in state 0 is not above nought
pub record IsPage (bytes text : List ℕ) : Type 0 where
  pub sheet : Sheet
  pub rest : List ℕ
  pub premium : ℕ
  pub fits : length bytes ≤ most_bytes
  pub is_sheet : IsSheet most bytes sheet rest
  pub least : LeastPremium (basis_of sheet) (plan_over (basis_of sheet)) 0 0 (pos 0) premium
  pub text_is : text ≡ page (basis_of sheet) premium

-- the bytes are too long, or no sheet, or no premium will do
pub data IsRefused (bytes : List ℕ) : Fault → Type 0 where
  too_long : most_bytes < length bytes → IsRefused bytes (text_fault 1 Whole 1 0)
  no_sheet :
      {fault : Fault} →
      length bytes ≤ most_bytes → Refuses most bytes fault → IsRefused bytes fault
  no_premium :
      {s : Sheet} {rest : List ℕ} {fault : Fault} →
      length bytes ≤ most_bytes → IsSheet most bytes s rest →
      NoPremium (basis_of s) (plan_over (basis_of s)) 0 0 (pos 0) fault → IsRefused bytes fault

module _ {Z : Type 0} where
  -- the page, or why there is none: a refusal, or want of memory
  abbrev pub PageOutcome : List ℕ → Result (String Z) Failure → Type 0
  PageOutcome bytes (Ok text) = IsPage bytes (string_bytes text)
  PageOutcome bytes (Err (Refused fault)) = IsRefused bytes fault
  PageOutcome bytes (Err NoMemory) = ⊤
