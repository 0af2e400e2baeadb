-- A table of what was read is the basis of the sheet. Assumes nothing.
use Rattle.std.proofs.Common.{◌≡◌, ℕ, ◌*◌, List, [], ◌∷◌, length, map, take, drop, ℤ, pos, vec_items, refl, sym, ap, ap₂, ◌∙◌, arith}
use Rattle.std.proofs.lemmas.List.{length-map}
use Rattle.std.proofs.Math.Seq.{take-append_seam}
use Rattle.basis.specs.TransitionColumns.{Fit}
use Rattle.basis.specs.TransitionTables.{transition_table, tabled, Holds}
use Rattle.basis.specs.declared.table.TransitionTable.{TransitionTable}
use Rattle.sheet.specs.Readings.{lengths, filled, IsRead}
use Rattle.sheet.specs.declared.reading.Reading.{Reading}
use Rattle.sheet.specs.Sheets.{Sheet, basis_of}
use Rattle.sheet.specs.Taken.{most, IsTaken}

-- whole numbers that are equal as integers
pub same_numbers : (xs ys : List ℕ) → map pos xs ≡ map pos ys → xs ≡ ys
same_numbers [] [] e = refl
same_numbers [] (y ∷ ys) e = grind arith
same_numbers (x ∷ xs) [] e = grind arith
same_numbers (x ∷ xs) (y ∷ ys) e =
    let head : x ≡ y = grind arith in
    let rest : map pos xs ≡ map pos ys = grind arith in
    ap₂ ◌∷◌ head (same_numbers xs ys rest)

-- the first places of a column that is filled
pub front : (numbers : List ℕ) (column : List ℤ) (n : ℕ) → length numbers ≡ n → take n (filled numbers column) ≡ map pos numbers
front numbers column n e = ap (λ k. take k (filled numbers column)) (sym e ∙ sym (length-map numbers pos)) ∙ take-append_seam (map pos numbers) (drop (length numbers) column)

pub table_is : (table : TransitionTable) (s : Sheet) → Holds table s.states (map pos s.factors) (map pos s.shares) → transition_table table ≡ basis_of s
table_is table s holds =
    let factors = same_numbers (vec_items table.factors) s.factors holds.discount in
    let shares = same_numbers (vec_items table.shares) s.shares holds.moves in
    ap (λ m. tabled m (vec_items table.factors) (vec_items table.shares)) holds.states ∙ ap₂ (tabled s.states) factors shares

-- the columns that were read, up to the sheet's own places, and a table that took them in
pub factors_are : (bytes : List ℕ) (factors shares factors_after shares_after : List ℤ) (reading : Reading) (s : Sheet) → IsRead bytes factors shares factors_after shares_after reading s → take reading.years factors_after ≡ map pos s.factors
factors_are bytes factors shares factors_after shares_after reading s read =
    ap (take reading.years) read.factors_filled ∙ front s.factors factors reading.years (sym (length-map s.factors pos) ∙ read.sheet.lawful.size.factor_places ∙ sym read.years)

pub shares_are : (bytes : List ℕ) (factors shares factors_after shares_after : List ℤ) (reading : Reading) (s : Sheet) → IsRead bytes factors shares factors_after shares_after reading s → take (reading.years * reading.states * reading.states) shares_after ≡ map pos s.shares
shares_are bytes factors shares factors_after shares_after reading s read =
    let places : reading.years * reading.states * reading.states ≡ s.years * s.states * s.states = rw (read.states, read.years) refl in
    ap (take (reading.years * reading.states * reading.states)) read.shares_filled ∙ front s.shares shares (reading.years * reading.states * reading.states) (sym (length-map s.shares pos) ∙ read.sheet.lawful.size.share_places ∙ sym places)

basis_is : (bytes : List ℕ) (factors shares factors_after shares_after : List ℤ) (reading : Reading) (s : Sheet) (table : TransitionTable) → IsRead bytes factors shares factors_after shares_after reading s → Holds table reading.states (take reading.years factors_after) (take (reading.years * reading.states * reading.states) shares_after) → transition_table table ≡ basis_of s
basis_is bytes factors shares factors_after shares_after reading s table read holds =
    table_is table s (record {
      states = holds.states ∙ read.states;
      discount = holds.discount ∙ factors_are bytes factors shares factors_after shares_after reading s read;
      moves = holds.moves ∙ shares_are bytes factors shares factors_after shares_after reading s read;
    })

pub taken : (bytes : List ℕ) (factors shares factors_after shares_after : List ℤ) (reading : Reading) (s : Sheet) (table : TransitionTable) → lengths factors shares ≡ most → IsRead bytes factors shares factors_after shares_after reading s → Holds table reading.states (take reading.years factors_after) (take (reading.years * reading.states * reading.states) shares_after) → IsTaken bytes table reading.rest s
taken bytes factors shares factors_after shares_after reading s table long read holds = record {
  sheet = rw long at read.sheet;
  basis = basis_is bytes factors shares factors_after shares_after reading s table read holds;
  spot = read.rest;
}

-- a table can take in what was read
pub fits : (bytes : List ℕ) (factors shares factors_after shares_after : List ℤ) (reading : Reading) (s : Sheet) → IsRead bytes factors shares factors_after shares_after reading s → Fit reading.states reading.years (take reading.years factors_after) (take (reading.years * reading.states * reading.states) shares_after)
fits bytes factors shares factors_after shares_after reading s read =
    rw (factors_are bytes factors shares factors_after shares_after reading s read, shares_are bytes factors shares factors_after shares_after reading s read, read.states, read.years) read.sheet.lawful
