-- The text of the worked sheet. Assumes nothing.
use Rattle.std.proofs.Common.{◌≡◌, refl}
use Rattle.sheet.specs.Sheets.{basis_of}
use Rattle.sheet.specs.Texts.{text_of}
use Rattle.sheet.specs.WorkedSheet.{worked_sheet, worked_text}
use Rattle.std.specs.Fmt.{digits}

pub worked : text_of (basis_of worked_sheet) ≡ worked_text
unfolding digits
worked = refl
