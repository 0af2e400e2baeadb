-- The turns of the loop over lines. Assumes nothing.
use Rattle.std.proofs.Common.{◌≡◌, ℕ, Bool, true, false, List, [], ◌∷◌, ◌++◌, Some, None, append_assoc, refl, sym, ap, ◌∙◌}
use Rattle.units.specs.Faults.{text_fault}
use Rattle.units.specs.declared.fault.Fault.{Fault}
use Rattle.units.specs.declared.fault.Layer.TheVariants.{Sheet as Whole}
use Rattle.sheet.specs.Checks.{ends_in_time, first_broken, line_checks, part_checks, made_by, ends_sheet}
use Rattle.sheet.specs.Fields.{bytes_of}
use Rattle.sheet.specs.FirstLines.{IsFirstLine}
use Rattle.sheet.specs.Lines.{first_line, after_line, spot_after, parts}
use Rattle.sheet.specs.Reading.{Outcome, Reads, breaks, ends_here, goes_on, refused, ends}
use Rattle.sheet.specs.Readings.{IsRestAfter}
use Rattle.sheet.specs.Sheets.{Sheet}
use Rattle.sheet.specs.declared.columns.Columns.{Columns}
use Rattle.sheet.specs.declared.part.Part.{Part}
use Rattle.sheet.proofs.Kept.{line_cut, spot_grows}

pub no_feed : (columns : Columns) (s : Sheet) (text : Part) (fault : Fault) → ends_in_time (bytes_of text) ≡ false → fault ≡ text_fault 2 Whole text.spot.line text.spot.offset → Reads columns s text.spot (bytes_of text) (refused fault)
no_feed columns s text fault late is = breaks s text.spot (bytes_of text) fault (rw (late, is) refl)

kept : (columns : Columns) (s : Sheet) (text line rest : Part) → IsFirstLine text line rest → first_broken (part_checks columns s line.spot (parts (bytes_of line))) ≡ None → first_broken (part_checks columns s text.spot (parts (first_line (bytes_of text)))) ≡ None
kept columns s text line rest turn none = ap (λ b. first_broken (part_checks columns s text.spot (parts b))) (sym turn.line_bytes) ∙ ap (λ at. first_broken (part_checks columns s at (parts (bytes_of line)))) (sym turn.line_spot) ∙ none

pub line_breaks : (columns : Columns) (s : Sheet) (text line rest : Part) (fault : Fault) → IsFirstLine text line rest → first_broken (part_checks columns s line.spot (parts (bytes_of line))) ≡ Some fault → Reads columns s text.spot (bytes_of text) (refused fault)
line_breaks columns s text line rest fault turn broken = breaks s text.spot (bytes_of text) fault (rw turn.in_time (ap (λ b. first_broken (part_checks columns s text.spot (parts b))) (sym turn.line_bytes) ∙ ap (λ at. first_broken (part_checks columns s at (parts (bytes_of line)))) (sym turn.line_spot) ∙ broken))

made : (columns : Columns) (s after : Sheet) (text line rest : Part) → IsFirstLine text line rest → after ≡ made_by columns s line.spot (parts (bytes_of line)) → made_by columns s text.spot (parts (first_line (bytes_of text))) ≡ after
made columns s after text line rest turn is = ap (λ b. made_by columns s text.spot (parts b)) (sym turn.line_bytes) ∙ ap (λ at. made_by columns s at (parts (bytes_of line))) (sym turn.line_spot) ∙ sym is

unbroken : (columns : Columns) (s : Sheet) (text line rest : Part) → IsFirstLine text line rest → first_broken (part_checks columns s line.spot (parts (bytes_of line))) ≡ None → first_broken (line_checks columns s text.spot (bytes_of text)) ≡ None
unbroken columns s text line rest turn none = rw turn.in_time (kept columns s text line rest turn none)

ended : (text line rest : Part) (last : Bool) → IsFirstLine text line rest → last ≡ ends_sheet (parts (bytes_of line)) → ends_sheet (parts (first_line (bytes_of text))) ≡ last
ended text line rest last turn is = ap (λ b. ends_sheet (parts b)) (sym turn.line_bytes) ∙ sym is

pub line_ends : (columns : Columns) (s after : Sheet) (text line rest : Part) → IsFirstLine text line rest → first_broken (part_checks columns s line.spot (parts (bytes_of line))) ≡ None → after ≡ made_by columns s line.spot (parts (bytes_of line)) → true ≡ ends_sheet (parts (bytes_of line)) → Reads columns s text.spot (bytes_of text) (ends after (bytes_of rest))
line_ends columns s after text line rest turn none makes last =
    rw (sym (made columns s after text line rest turn makes), turn.rest_bytes) (ends_here s text.spot (bytes_of text) (unbroken columns s text line rest turn none) (ended text line rest true turn last))

pub line_goes_on : (columns : Columns) (s after : Sheet) (text line rest : Part) → IsFirstLine text line rest → first_broken (part_checks columns s line.spot (parts (bytes_of line))) ≡ None → after ≡ made_by columns s line.spot (parts (bytes_of line)) → false ≡ ends_sheet (parts (bytes_of line)) → (outcome : Outcome) → Reads columns after rest.spot (bytes_of rest) outcome → Reads columns s text.spot (bytes_of text) outcome
line_goes_on columns s after text line rest turn none makes last outcome more =
    goes_on s text.spot (bytes_of text) outcome (unbroken columns s text line rest turn none) (ended text line rest false turn last) (rw (made columns s after text line rest turn makes, sym turn.rest_bytes, sym turn.rest_spot) more)

pub rest_after : (before bytes : List ℕ) (text line rest : Part) → IsFirstLine text line rest → IsRestAfter before bytes text → IsRestAfter (before ++ (first_line (bytes_of text) ++ 10 ∷ [])) bytes rest
rest_after before bytes text line rest turn at = (
  at.0 ∙ ap (λ b. before ++ b) (line_cut (bytes_of text) turn.in_time ∙ sym (append_assoc (first_line (bytes_of text)) (10 ∷ []) (after_line (bytes_of text)))) ∙ sym (append_assoc before (first_line (bytes_of text) ++ 10 ∷ []) (after_line (bytes_of text))) ∙ ap (λ b. (before ++ (first_line (bytes_of text) ++ 10 ∷ [])) ++ b) (sym turn.rest_bytes),
  turn.rest_spot ∙ ap (λ at. spot_after at (bytes_of text)) at.1 ∙ spot_grows before (bytes_of text),
)
