-- A sheet is read. Assumes nothing.
use Rattle.std.proofs.Common.{◌≡◌, ℕ, ◌*◌, true, List, [], ◌∷◌, ◌++◌, length, take, pos, refl, sym, ap, ◌∙◌, subst, arith}
use Rattle.std.proofs.lemmas.Bool.Decides.{nat_tests}
use Rattle.std.proofs.lemmas.Grind.{same_number_lists}
use Rattle.std.proofs.lemmas.List.{append_assoc, take_all, length-map}
use Rattle.sheet.specs.Checks.{kind, padded, full_rows}
use Rattle.sheet.specs.Faults.{text_so_far}
use Rattle.sheet.specs.Lines.{start}
use Rattle.sheet.specs.Reading.{Outcome, Reads, ends, nothing_yet}
use Rattle.sheet.specs.declared.columns.Columns.{Columns}
use Rattle.sheet.specs.Sheets.{Sheet, LawfulBasis, IsSheet, basis_of}
use Rattle.sheet.specs.Texts.{line_text, years_text, text_of}
use Rattle.sheet.specs.declared.spot.Spot.{Spot}
use Rattle.sheet.proofs.Joins.{length_padded, get_or_padded}
use Rattle.sheet.proofs.Once.{one_outcome}
use Rattle.sheet.proofs.Onward.{Agrees}
use Rattle.sheet.proofs.YearWalks.{place_start, full_on_way}
use Rattle.sheet.proofs.Rows.{rows_of_lawful}
use Rattle.sheet.proofs.Unbroken.{Keeps}
use Rattle.sheet.proofs.Walks.{past, walk_ends}
use Rattle.sheet.proofs.Arrives.{years_of_lawful, readable_of_lawful, arrives}

end_full : (s : Sheet) (xs : List ℕ) → LawfulBasis s → Agrees s (length s.factors * s.states * s.states) xs → full_rows (record { states = s.states; years = s.years; factors = s.factors; shares = xs }) ≡ true
end_full s xs lawful agrees =
    let came = years_of_lawful s lawful in
    let all : take (length s.factors) s.factors ≡ s.factors = take_all (length s.factors) s.factors (omega arith) in
    subst (λ fs. full_rows (record { states = s.states; years = s.years; factors = fs; shares = xs }) ≡ true) all
    (full_on_way s (length s.factors) xs (omega arith) (rw (place_start s.states (length s.factors)) agrees) (λ i t h l. rows_of_lawful s lawful i t h (omega arith)))

-- the shares with noughts at the end are those of the sheet
end_shares : (s : Sheet) (xs : List ℕ) → LawfulBasis s → Agrees s (s.years * s.states * s.states) xs → padded xs (s.years * s.states * s.states) ≡ s.shares
end_shares s xs lawful agrees =
    let top = s.years * s.states * s.states in
    let long = length_padded xs top agrees.low in
    let size : length s.shares ≡ top = sym (length-map s.shares pos) ∙ lawful.size.share_places in
    same_number_lists (padded xs top) s.shares (long ∙ sym size) (λ k l. get_or_padded xs top k ∙ agrees.same k (omega arith))

end_keeps : (columns : Columns) (s : Sheet) (xs : List ℕ) (spot : Spot) → LawfulBasis s → Agrees s (length s.factors * s.states * s.states) xs → Keeps (kind columns (record { states = s.states; years = s.years; factors = s.factors; shares = xs }) spot 69) []
end_keeps columns s xs spot lawful agrees =
    let some = lawful.size.least_years in
    let came = years_of_lawful s lawful in
    record {
      kept = record { stands = grind (arith, nat_tests); ranges = tt; rules = rw (end_full s xs lawful agrees) refl };
      most = omega arith;
      few = tt;
    }

-- the text of a lawful basis is that of its years, and the end
text_parts : (s : Sheet) → LawfulBasis s → (rest : List ℕ) → text_of (basis_of s) ++ rest ≡ text_so_far s ++ (line_text 69 [] ++ rest)
text_parts s lawful rest =
    let came = years_of_lawful s lawful in
    let first = line_text 66 (s.states ∷ s.years ∷ []) in
    let years = years_text (basis_of s) (length s.factors) in
    ap (λ n. (line_text 66 (s.states ∷ n ∷ []) ++ (years ++ line_text 69 [])) ++ rest) came
    ∙ (ap (λ bytes. bytes ++ rest) (sym (append_assoc first years (line_text 69 []))) ∙ append_assoc (first ++ years) (line_text 69 []) rest)

-- the text of a lawful basis is read, whatever follows it
pub sheet_reads : (columns : Columns) (bytes : List ℕ) (s : Sheet) (rest : List ℕ) → IsSheet columns bytes s rest → Reads columns nothing_yet start bytes (ends s rest)
sheet_reads columns bytes s rest is =
    let way = arrives columns s (readable_of_lawful columns s is.lawful is.room) in
    let came = years_of_lawful s is.lawful in
    let until : Sheet = record { states = s.states; years = s.years; factors = s.factors; shares = way.shares } in
    let made : (kind columns until (past start (text_so_far s)) 69).makes [] ≡ s = ap (λ xs. record { states = s.states; years = s.years; factors = s.factors; shares = xs }) (end_shares s way.shares is.lawful (subst (λ n. Agrees s (n * s.states * s.states) way.shares) came way.agrees)) in
    subst (λ b. Reads columns nothing_yet start b (ends s rest)) (sym (is.text ∙ text_parts s is.lawful rest))
    (way.walks.on start (line_text 69 [] ++ rest) (ends s rest) (walk_ends columns until s (past start (text_so_far s)) rest (end_keeps columns s way.shares (past start (text_so_far s)) is.lawful way.agrees) made))

-- so a sheet comes to nothing else
pub only_sheet : (columns : Columns) (bytes : List ℕ) (s : Sheet) (rest : List ℕ) (outcome : Outcome) → IsSheet columns bytes s rest → Reads columns nothing_yet start bytes outcome → outcome ≡ ends s rest
only_sheet columns bytes s rest outcome is reads = one_outcome columns nothing_yet start bytes outcome (ends s rest) reads (sheet_reads columns bytes s rest is)
