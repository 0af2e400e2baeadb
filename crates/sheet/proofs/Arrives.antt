-- The text so far of a sheet leads to its years and shares. Assumes nothing.
use Rattle.std.proofs.Common.{◌≡◌, ℕ, ◌+◌, ◌*◌, ◌<◌, ◌≤◌, true, List, [], ◌∷◌, length, take, map, pos, ◌&&◌, nat_le, refl, sym, ◌∙◌, subst, arith}
use Rattle.std.proofs.lemmas.Bool.Decides.{nat_tests}
use Rattle.std.proofs.lemmas.List.{take_all, length-map}
use Rattle.units.specs.Columns.{AllBetween}
use Rattle.units.specs.Ranges.{million}
use Rattle.sheet.specs.Checks.{row_total}
use Rattle.sheet.specs.Faults.{Begun, text_so_far}
use Rattle.sheet.specs.Reading.{nothing_yet}
use Rattle.sheet.specs.declared.columns.Columns.{Columns}
use Rattle.sheet.specs.Sheets.{Sheet, LawfulBasis, Suffice, basis_of}
use Rattle.sheet.specs.Texts.{line_text, years_text}
use Rattle.sheet.proofs.Onward.{Readable, Agrees, at}
use Rattle.sheet.proofs.YearWalks.{years_walk, place_start}
use Rattle.sheet.proofs.Rows.{rows_of_lawful, shares_of_lawful, between_each, at_most}
use Rattle.sheet.proofs.Walks.{Walks, walk_on, walk_line}

-- ---- which sheets have a text that is read on

readable_by : (columns : Columns) (s : Sheet) → 2 ≤ s.states → s.states ≤ 8 → 1 ≤ s.years → s.years ≤ 120 → Suffice columns s.states s.years → length s.factors ≤ s.years → AllBetween (pos 1) (pos million) (map pos s.factors) → AllBetween (pos 0) (pos million) (map pos s.shares) → ((i t : ℕ) → i < s.states → t + 1 < length s.factors → row_total s t i ≡ million) → Readable columns s
readable_by columns s two eight one many room came discount range rows = record {
  least_states = two;
  most_states = eight;
  least_years = one;
  most_years = many;
  room = room;
  years_come = came;
  discount = between_each s.factors 1 million discount;
  range = at_most s.shares million range;
  rows = rows;
}

pub years_of_lawful : (s : Sheet) → LawfulBasis s → length s.factors ≡ s.years
years_of_lawful s lawful = sym (length-map s.factors pos) ∙ lawful.size.factor_places

pub readable_of_lawful : (columns : Columns) (s : Sheet) → LawfulBasis s → Suffice columns s.states s.years → Readable columns s
readable_of_lawful columns s lawful room =
    let size = lawful.size in
    let came = years_of_lawful s lawful in
    readable_by columns s size.least_states size.most_states size.least_years size.most_years room (omega arith) lawful.discount (shares_of_lawful s lawful) (λ i t h l. rows_of_lawful s lawful i t h (omega arith))

pub readable_of_begun : (columns : Columns) (s : Sheet) → Begun columns s → Readable columns s
readable_of_begun columns s begun = readable_by columns s begun.least_states begun.most_states begun.least_years begun.most_years begun.room begun.years_come begun.discount begun.range begun.rows

-- ---- the text so far

begin_walk : (columns : Columns) (s : Sheet) → Readable columns s → Walks columns nothing_yet (line_text 66 (s.states ∷ s.years ∷ [])) (at s 0 [])
begin_walk columns s readable =
    let size = readable.most_states in
    let long = readable.most_years in
    let room = readable.room in
    let fits : (nat_le s.years columns.factors && nat_le (s.years * s.states * s.states) columns.shares) ≡ true = grind (arith, nat_tests) in
    walk_line columns nothing_yet (at s 0 []) 66 (s.states ∷ s.years ∷ []) refl refl refl
    (λ spot. record {
      kept = record { stands = refl; ranges = ((readable.least_states, size), ((readable.least_years, long), tt)); rules = rw fits refl };
      most = omega arith;
      few = (omega arith, (omega arith, tt));
    })
    (λ spot. refl)

-- the text so far leads to all the years that have come, and to the shares of the sheet but for noughts at the end
pub record Arrives (columns : Columns) (s : Sheet) : Type 0 where
  pub shares : List ℕ
  pub agrees : Agrees s (length s.factors * s.states * s.states) shares
  pub walks : Walks columns nothing_yet (text_so_far s) (record { states = s.states; years = s.years; factors = s.factors; shares = shares })

pub arrives : (columns : Columns) (s : Sheet) → Readable columns s → Arrives columns s
arrives columns s readable =
    let on = years_walk columns s readable in
    let all : take (length s.factors) s.factors ≡ s.factors = take_all (length s.factors) s.factors (omega arith) in
    record {
      shares = on.shares;
      agrees = rw (place_start s.states (length s.factors)) at on.agrees;
      walks = subst (λ fs. Walks columns nothing_yet (text_so_far s) (record { states = s.states; years = s.years; factors = fs; shares = on.shares })) all
          (walk_on columns nothing_yet (at s 0 []) (at s (length s.factors) on.shares) (line_text 66 (s.states ∷ s.years ∷ [])) (years_text (basis_of s) (length s.factors)) (begin_walk columns s readable) on.walks);
    }
