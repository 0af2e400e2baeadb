-- What an outcome of reading says of the bytes, and that they can say nothing else. Assumes nothing.
use Rattle.std.proofs.Common.{◌≡◌, ℕ, List, ℤ, sym, ap, subst, ◌∙◌, arith}
use Rattle.std.proofs.lemmas.List.{append_cancel_right}
use Rattle.units.specs.declared.fault.Fault.{Fault}
use Rattle.sheet.specs.Faults.{Refuses, spot_past}
use Rattle.sheet.specs.Fields.{bytes_of}
use Rattle.sheet.specs.Lines.{start}
use Rattle.sheet.specs.Reading.{Reads, nothing_yet, ends, refused}
use Rattle.sheet.specs.Readings.{IsRestAfter, IsRead, lengths, filled}
use Rattle.sheet.specs.Sheets.{Sheet, IsSheet, basis_of}
use Rattle.sheet.specs.Texts.{text_of}
use Rattle.sheet.specs.declared.columns.Columns.{Columns}
use Rattle.sheet.specs.declared.part.Part.{Part}
use Rattle.sheet.specs.declared.reading.Reading.{Reading}
use Rattle.sheet.proofs.Sound.{reads_ended}
use Rattle.sheet.proofs.Complete.{only_sheet}
use Rattle.sheet.proofs.FaultReads.{only_fault}

pub no_sheet : (columns : Columns) (bytes : List ℕ) (fault : Fault) → Reads columns nothing_yet start bytes (refused fault) → (s : Sheet) (rest : List ℕ) → IsSheet columns bytes s rest → ⊥
no_sheet columns bytes fault reads s rest sheet = let e = only_sheet columns bytes s rest (refused fault) sheet reads in grind arith

pub same_fault : (columns : Columns) (bytes : List ℕ) (fault other : Fault) → Reads columns nothing_yet start bytes (refused fault) → Refuses columns bytes other → fault ≡ other
same_fault columns bytes fault other reads refuses = let e = only_fault columns bytes other (refused fault) refuses reads in grind arith

pub no_fault : (columns : Columns) (bytes : List ℕ) (s : Sheet) (rest : List ℕ) (fault : Fault) → Reads columns nothing_yet start bytes (ends s rest) → Refuses columns bytes fault → ⊥
no_fault columns bytes s rest fault reads refuses = let e = only_fault columns bytes fault (ends s rest) refuses reads in grind arith

pub same_sheet : (columns : Columns) (bytes : List ℕ) (s other : Sheet) (rest more : List ℕ) → Reads columns nothing_yet start bytes (ends s rest) → IsSheet columns bytes other more → (s ≡ other) × (rest ≡ more)
same_sheet columns bytes s other rest more reads sheet = let e = only_sheet columns bytes other more (ends s rest) sheet reads in (grind arith, grind arith)

-- what was read before the rest is the text of the basis
pub rest_spot : (columns : Columns) (bytes before : List ℕ) (s : Sheet) (rest : Part) → IsSheet columns bytes s (bytes_of rest) → IsRestAfter before bytes rest → rest.spot ≡ spot_past (text_of (basis_of s))
rest_spot columns bytes before s rest sheet after =
    after.1 ∙ ap spot_past (append_cancel_right before (text_of (basis_of s)) (bytes_of rest) (sym after.0 ∙ sheet.text))

pub is_read : (bytes before : List ℕ) (factors shares factors_after shares_after : List ℤ) (reading : Reading) (s : Sheet) → Reads (lengths factors shares) nothing_yet start bytes (ends s (bytes_of reading.rest)) → IsRestAfter before bytes reading.rest → reading.states ≡ s.states → reading.years ≡ s.years → factors_after ≡ filled s.factors factors → shares_after ≡ filled s.shares shares → IsRead bytes factors shares factors_after shares_after reading s
is_read bytes before factors shares factors_after shares_after reading s reads after states years factors_filled shares_filled =
    let sheet = reads_ended (lengths factors shares) bytes s (bytes_of reading.rest) reads in
    record { sheet = sheet; states = states; years = years; rest = rest_spot (lengths factors shares) bytes before s reading.rest sheet after; factors_filled = factors_filled; shares_filled = shares_filled }

pub each_sheet : (bytes : List ℕ) (factors shares factors_after shares_after : List ℤ) (reading : Reading) (s other : Sheet) (more : List ℕ) → Reads (lengths factors shares) nothing_yet start bytes (ends s (bytes_of reading.rest)) → IsRead bytes factors shares factors_after shares_after reading s → IsSheet (lengths factors shares) bytes other more → (bytes_of reading.rest ≡ more) × IsRead bytes factors shares factors_after shares_after reading other
each_sheet bytes factors shares factors_after shares_after reading s other more reads read sheet =
    let same = same_sheet (lengths factors shares) bytes s other (bytes_of reading.rest) more reads sheet in
    (same.1, subst (λ x. IsRead bytes factors shares factors_after shares_after reading x) same.0 read)
