-- How far the reading of a sheet has come, and steps over a count. Assumes nothing.
use Rattle.std.proofs.Common.{◌≡◌, ℕ, zero, suc, ◌+◌, ◌<◌, ◌≤◌, inl, inr, List, [], ◌∷◌, ◌++◌, length, get_or, take, flat_map, sym, ◌∙◌, subst, arith}
use Rattle.std.specs.List.{range_with_len}
use Rattle.std.proofs.lemmas.Bool.{cases_lt}
use Rattle.std.proofs.lemmas.List.{length-take-le, get_or_past}
use Rattle.units.specs.Ranges.{million}
use Rattle.sheet.specs.Checks.{padded, row_total}
use Rattle.sheet.specs.declared.columns.Columns.{Columns}
use Rattle.sheet.specs.Sheets.{Sheet, Suffice}
use Rattle.sheet.proofs.Joins.{length_more, more_below, more_at}
use Rattle.sheet.proofs.Walks.{Walks, walk_none, walk_on}

-- what is asked of a sheet for its text to be read: every year but the last is whole
pub record Readable (columns : Columns) (b : Sheet) : Type 0 where
  pub least_states : 2 ≤ b.states
  pub most_states : b.states ≤ 8
  pub least_years : 1 ≤ b.years
  pub most_years : b.years ≤ 120
  pub room : Suffice columns b.states b.years
  pub years_come : length b.factors ≤ b.years
  pub discount : (t : ℕ) → t < length b.factors → (1 ≤ get_or b.factors t 0) × (get_or b.factors t 0 ≤ million)
  pub range : (k : ℕ) → get_or b.shares k 0 ≤ million
  pub rows : (i t : ℕ) → i < b.states → t + 1 < length b.factors → row_total b t i ≡ million

-- on the way: so many years have come, and these shares
abbrev pub at : Sheet → ℕ → List ℕ → Sheet
at b years shares = record { states = b.states; years = b.years; factors = take years b.factors; shares = shares }

-- these shares are those of the sheet below a place, up to the last above nought
pub record Agrees (b : Sheet) (q : ℕ) (shares : List ℕ) : Type 0 where
  pub low : length shares ≤ q
  pub same : (k : ℕ) → k < q → get_or shares k 0 ≡ get_or b.shares k 0
  pub last : (k : ℕ) → length shares ≡ k + 1 → 1 ≤ get_or shares k 0

pub agrees_skip : (b : Sheet) (q : ℕ) (xs : List ℕ) → Agrees b q xs → get_or b.shares q 0 ≡ 0 → Agrees b (q + 1) xs
agrees_skip b q xs a none = record {
  low = omega (arith, a.low);
  same = λ k below. elim (cases_lt k q) [ inl l ↦ a.same k l | inr l ↦ let e : k ≡ q = omega arith in rw e (get_or_past xs q 0 a.low ∙ sym none) ];
  last = a.last;
}

pub agrees_more : (b : Sheet) (q p : ℕ) (xs : List ℕ) → Agrees b q xs → get_or b.shares q 0 ≡ p → 1 ≤ p → Agrees b (q + 1) (padded xs q ++ p ∷ [])
agrees_more b q p xs a is some =
    let long = length_more xs q p a.low in
    let top = more_at xs q p a.low in
    record {
      low = omega (arith, long);
      same = λ k below. elim (cases_lt k q) [ inl l ↦ more_below xs q p k a.low l ∙ a.same k l | inr l ↦ let e : k ≡ q = omega arith in rw e (top ∙ sym is) ];
      last = λ k size. let e : k ≡ q = omega (arith, long) in rw e (omega (arith, top));
    }

-- the text leads from so many years and these shares to more years, and shares that agree below a place
pub record On (columns : Columns) (b : Sheet) (y : ℕ) (xs : List ℕ) (z q : ℕ) (text : List ℕ) : Type 0 where
  pub shares : List ℕ
  pub agrees : Agrees b q shares
  pub walks : Walks columns (at b y xs) text (at b z shares)

-- step by step, over a count
pub on_count : (columns : Columns) (b : Sheet) (text : ℕ → List ℕ) (y q : ℕ → ℕ) (top : ℕ) → ((k : ℕ) (xs : List ℕ) → k < top → Agrees b (q k) xs → On columns b (y k) xs (y (k + 1)) (q (k + 1)) (text k)) → (a n : ℕ) → a + n ≡ top → (xs : List ℕ) → Agrees b (q a) xs → On columns b (y a) xs (y top) (q top) (flat_map text (range_with_len a n))
on_count columns b text y q top each a zero size xs agrees =
    let here : a ≡ top = omega arith in
    subst (λ k. On columns b (y a) xs (y k) (q k) []) here (record { shares = xs; agrees = agrees; walks = walk_none columns (at b (y a) xs) })
on_count columns b text y q top each a (suc n) size xs agrees =
    let one = each a xs (omega arith) agrees in
    let more = on_count columns b text y q top each (a + 1) n (omega arith) one.shares one.agrees in
    record { shares = more.shares; agrees = more.agrees; walks = walk_on columns (at b (y a) xs) (at b (y (a + 1)) one.shares) (at b (y top) more.shares) (text a) (flat_map text (range_with_len (a + 1) n)) one.walks more.walks }

pub years_at : (b : Sheet) (y : ℕ) → y ≤ length b.factors → length (take y b.factors) ≡ y
years_at b y most = length-take-le y b.factors most
