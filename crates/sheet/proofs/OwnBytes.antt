-- The parts of a part of the input stand in the input. Assumes nothing.
use Rattle.std.proofs.Common.{◌≡◌, ℕ, ◌+◌, IfOk, List, [], ◌∷◌, ◌++◌, map, length, flat_map, Result, Ok, Err, append-nil, append_assoc, length-append, sym, ap, ◌∙◌, arith}
use Rattle.std.specs.List.{join_with_byte}
use Rattle.std.proofs.lemmas.List.Splits.{join_with_byte-slice_split}
use Rattle.units.specs.declared.fault.Fault.{Fault}
use Rattle.sheet.specs.Fields.{bytes_of, StandFrom, StandsIn, AllStandIn}
use Rattle.sheet.specs.FirstLines.{IsFirstLine}
use Rattle.sheet.specs.Lines.{first_line, after_line, further}
use Rattle.sheet.specs.Outcomes.{CutsLine, SplitsLine}
use Rattle.sheet.specs.SplitLines.{letter, fields, IsLine}
use Rattle.sheet.specs.declared.line.Line.{Line}
use Rattle.sheet.specs.declared.part.Part.{Part}
use Rattle.sheet.specs.declared.spot.Spot.{Spot}
use Rattle.sheet.proofs.Kept.{join_is, line_cut}

pub whole_stands : (input : List ℕ) (whole : Part) → bytes_of whole ≡ input → whole.spot.offset ≡ 0 → StandsIn input whole
whole_stands input whole all first = record { before = []; after = []; text = sym all ∙ sym (append-nil (bytes_of whole)); offset = sym first }

-- ---- the first line, and what stands after it

lines_stand : (input : List ℕ) (text line rest : Part) → IsFirstLine text line rest → StandsIn input text → StandsIn input line × StandsIn input rest
lines_stand input text line rest is at =
    let first = first_line (bytes_of text) in
    let left = after_line (bytes_of text) in
    let cut : input ≡ at.before ++ ((first_line (bytes_of text) ++ (10 ∷ after_line (bytes_of text))) ++ at.after) = at.text ∙ ap (λ b. at.before ++ (b ++ at.after)) (line_cut (bytes_of text) is.in_time) in
    let apart : input ≡ at.before ++ (first_line (bytes_of text) ++ ((10 ∷ after_line (bytes_of text)) ++ at.after)) = cut ∙ ap (λ b. at.before ++ b) (append_assoc first (10 ∷ left) at.after) in
    let fed : first ++ ((10 ∷ left) ++ at.after) ≡ (first ++ 10 ∷ []) ++ (left ++ at.after) = sym (append_assoc first (10 ∷ []) (left ++ at.after)) in
    let behind : input ≡ (at.before ++ (first ++ 10 ∷ [])) ++ (left ++ at.after) = apart ∙ ap (λ b. at.before ++ b) fed ∙ sym (append_assoc at.before (first ++ 10 ∷ []) (left ++ at.after)) in
    let past : length (at.before ++ (first ++ 10 ∷ [])) ≡ length at.before + (length first + 1) = omega (arith, length-append at.before (first ++ 10 ∷ []), length-append first (10 ∷ [])) in (
      record { before = at.before; after = (10 ∷ left) ++ at.after; text = apart ∙ ap (λ b. at.before ++ (b ++ ((10 ∷ left) ++ at.after))) (sym is.line_bytes); offset = at.offset ∙ ap (λ (s : Spot). s.offset) (sym is.line_spot) },
      record { before = at.before ++ (first ++ 10 ∷ []); after = at.after; text = behind ∙ ap (λ b. (at.before ++ (first ++ 10 ∷ [])) ++ (b ++ at.after)) (sym is.rest_bytes); offset = past ∙ ap (λ n. n + (length first + 1)) at.offset ∙ ap (λ (s : Spot). s.offset) (sym is.rest_spot) },
    )

pub cut_stands : (input : List ℕ) (text : Part) (result : Result (Part × Part) Fault) → CutsLine text result → StandsIn input text → IfOk result (λ parts. StandsIn input parts.0 × StandsIn input parts.1)
cut_stands input text (Ok parts) cuts at = lines_stand input text parts.0 parts.1 cuts at
cut_stands input text (Err fault) cuts at = tt

-- ---- the fields of a line

behind : (input : List ℕ) (fs : List Part) (spot : Spot) (before after : List ℕ) → input ≡ before ++ (flat_map (λ f. 59 ∷ f) (map bytes_of fs) ++ after) → length before + 1 ≡ spot.offset → StandFrom spot fs → AllStandIn input fs
behind input [] spot before after text at stand = tt
behind input (f ∷ fs) spot before after text at stand =
    let more = flat_map (λ f. 59 ∷ f) (map bytes_of fs) in
    let apart : input ≡ before ++ (59 ∷ (bytes_of f ++ (more ++ after))) = text ∙ ap (λ b. before ++ (59 ∷ b)) (append_assoc (bytes_of f) more after) in
    let here : length (before ++ 59 ∷ []) ≡ spot.offset = length-append before (59 ∷ []) ∙ at in
    let past : length (before ++ (59 ∷ bytes_of f)) + 1 ≡ spot.offset + (length (bytes_of f) + 1) = omega (arith, length-append before (59 ∷ bytes_of f)) in (
      record { before = before ++ 59 ∷ []; after = more ++ after; text = apart ∙ sym (append_assoc before (59 ∷ []) (bytes_of f ++ (more ++ after))); offset = here ∙ ap (λ (s : Spot). s.offset) (sym stand.0) },
      behind input fs (further spot (length (bytes_of f) + 1)) (before ++ (59 ∷ bytes_of f)) after (apart ∙ sym (append_assoc before (59 ∷ bytes_of f) (more ++ after))) past stand.1,
    )

fields_stand : (input : List ℕ) (whole : Part) (line : Line) → IsLine whole line → StandsIn input whole → AllStandIn input (fields line)
fields_stand input whole line is at =
    let more = flat_map (λ f. 59 ∷ f) (map bytes_of (fields line)) in
    let bytes : bytes_of whole ≡ letter line ∷ flat_map (λ f. 59 ∷ f) (map bytes_of (fields line)) = sym (join_with_byte-slice_split 59 (bytes_of whole)) ∙ ap (join_with_byte 59) is.text ∙ join_is (letter line ∷ []) (map bytes_of (fields line)) in
    let text = at.text ∙ ap (λ b. at.before ++ (b ++ at.after)) bytes ∙ sym (append_assoc at.before (letter line ∷ []) (more ++ at.after)) in
    behind input (fields line) (further whole.spot 2) (at.before ++ letter line ∷ []) at.after text (omega (arith, at.offset, length-append at.before (letter line ∷ []))) is.places

pub split_stands : (input : List ℕ) (whole : Part) (result : Result Line Fault) → SplitsLine whole result → StandsIn input whole → IfOk result (λ line. AllStandIn input (fields line))
split_stands input whole (Ok line) splits at = fields_stand input whole line splits at
split_stands input whole (Err fault) splits at = tt
