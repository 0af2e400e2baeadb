-- What reading comes to is so: a sheet that it ends with is one, and a fault that it refuses with is the first. Assumes nothing.
use Rattle.std.proofs.Common.{◌≡◌, ℕ, inl, inr, List, [], ◌∷◌, ◌++◌, None, ◌==◌, refl, sym, ap, ◌∙◌, subst, append_assoc, arith}
use Rattle.units.specs.declared.fault.Fault.{Fault}
use Rattle.sheet.specs.Checks.{first_broken, line_checks, ends_sheet}
use Rattle.sheet.specs.Faults.{SaysSoFar, Refuses, spot_past}
use Rattle.sheet.specs.Lines.{first_line, after_line, parts, start, spot_after}
use Rattle.sheet.specs.Reading.{Reads, breaks, ends_here, goes_on, Outcome, ends, refused, nothing_yet, with_line}
use Rattle.sheet.specs.declared.columns.Columns.{Columns}
use Rattle.sheet.specs.Sheets.{Sheet, IsSheet}
use Rattle.sheet.specs.Texts.{line_text}
use Rattle.sheet.specs.declared.spot.Spot.{Spot}
use Rattle.sheet.proofs.Kept.{kept_line, spot_grows}
use Rattle.sheet.proofs.Stages.{Next, line_follows}

-- an outcome that is so
abbrev pub IsSo : Columns → List ℕ → Outcome → Type 0
IsSo columns bytes (ends s rest) = IsSheet columns bytes s rest
IsSo columns bytes (refused fault) = Refuses columns bytes fault

-- a line that breaks no rule is the next of the sheet
pub record Step (columns : Columns) (s : Sheet) (spot : Spot) (bytes before : List ℕ) : Type 0 where
  pub line : List ℕ
  pub text : before ++ bytes ≡ (before ++ line) ++ after_line bytes
  pub next : Next columns (with_line columns s spot bytes) (before ++ line) (ends_sheet (parts (first_line bytes)))
  pub after : spot_after spot bytes ≡ spot_past (before ++ line)

one_step : (columns : Columns) (s : Sheet) (spot : Spot) (bytes before : List ℕ) → SaysSoFar columns s before → spot ≡ spot_past before → first_broken (line_checks columns s spot bytes) ≡ None → Step columns s spot bytes before
one_step columns s spot bytes before says at kept =
    let k = kept_line columns s spot bytes kept in
    let line = line_text k.letter k.numbers in
    let next = line_follows columns s spot k.letter before k.numbers says k.keeps in
    let P : Sheet → Type 0 = λ x. Next columns x (before ++ line) (k.letter == 69) in
    record {
      line = line;
      text = ap (λ x. before ++ x) k.text ∙ sym (append_assoc before line (after_line bytes));
      next = subst (Next columns (with_line columns s spot bytes) (before ++ line)) (sym k.ends) (subst P (sym k.makes) next);
      after = ap (λ x. spot_after x bytes) at ∙ spot_grows before bytes ∙ ap (λ x. spot_past (before ++ (x ++ 10 ∷ []))) k.first;
    }

-- from a sheet so far, reading on comes to an outcome that is so
reads_so : (columns : Columns) (s : Sheet) (spot : Spot) (bytes : List ℕ) (outcome : Outcome) (before : List ℕ) → SaysSoFar columns s before → spot ≡ spot_past before → Reads columns s spot bytes outcome → IsSo columns (before ++ bytes) outcome
reads_so columns _ _ _ _ before says at (breaks s spot bytes fault broken) = record { sheet = s; before = before; after = bytes; split = refl; kept = says; broken = ap (λ x. first_broken (line_checks columns s x bytes)) (sym at) ∙ broken }
reads_so columns _ _ _ _ before says at (ends_here s spot bytes kept last) =
    let step = one_step columns s spot bytes before says at kept in
    elim step.next [
      | inl whole ↦ record { text = step.text ∙ ap (λ x. x ++ after_line bytes) whole.1.text; lawful = whole.1.lawful; room = whole.1.room }
      | inr more ↦ absurd (grind arith)
    ]
reads_so columns _ _ _ outcome before says at (goes_on s spot bytes _ kept more reads) =
    let step = one_step columns s spot bytes before says at kept in
    elim step.next [
      | inl whole ↦ absurd (grind arith)
      | inr next ↦ subst (λ x. IsSo columns x outcome) (sym step.text) (reads_so columns _ _ _ outcome (before ++ step.line) next.1 step.after reads)
    ]

-- bytes that are read to their end are a sheet
pub reads_ended : (columns : Columns) (bytes : List ℕ) (s : Sheet) (rest : List ℕ) → Reads columns nothing_yet start bytes (ends s rest) → IsSheet columns bytes s rest
reads_ended columns bytes s rest reads = reads_so columns nothing_yet start bytes (ends s rest) [] (inl (refl, refl)) refl reads

-- bytes that are refused in reading are refused with the first fault
pub reads_refused : (columns : Columns) (bytes : List ℕ) (fault : Fault) → Reads columns nothing_yet start bytes (refused fault) → Refuses columns bytes fault
reads_refused columns bytes fault reads = reads_so columns nothing_yet start bytes (refused fault) [] (inl (refl, refl)) refl reads
