-- The rules of a line of a sheet, in the order in which they are checked. Assumes nothing.
use Rattle.std.specs.Prelude.{ℕ, zero, suc, ◌+◌, ◌-◌, ◌*◌, ◌/◌, ◌%◌, Bool, true, false, cond, ◌&&◌, ◌||◌, List, [], ◌∷◌, ◌++◌, map, length, take, replicate, Option, Some, None, ◌==◌, nat_lt, nat_le, slice_index, sum_by}
use Rattle.std.specs.List.{range_with_len, list_all, list_any}
use Rattle.std.specs.Str.Parse.{digits_value}
use Rattle.units.specs.Faults.{text_fault}
use Rattle.units.specs.Ranges.{million}
use Rattle.units.specs.declared.fault.Fault.{Fault}
use Rattle.units.specs.declared.fault.Layer.{Layer}
use Rattle.units.specs.declared.fault.Layer.TheVariants.{Field, Sheet as Whole}
use Rattle.basis.specs.TransitionColumns.{place}
use Rattle.sheet.specs.Lines.{further, is_line_feed, first_line, parts, letter_of}
use Rattle.sheet.specs.Numerals.{is_number}
use Rattle.sheet.specs.declared.columns.Columns.{Columns}
use Rattle.sheet.specs.Sheets.{Sheet}
use Rattle.sheet.specs.declared.spot.Spot.{Spot}

-- a rule that holds or not, and the fault that tells its breach
pub record Check : Type 0 where
  pub fault : Fault
  pub holds : Bool

abbrev pub check : ℕ → Layer → Spot → Bool → Check
check number layer spot holds =
    record { fault = text_fault number layer spot.line spot.offset; holds = holds }

-- the fault of the first rule that does not hold
abbrev pub first_broken : List Check → Option Fault
first_broken [] = None
first_broken (c ∷ cs) = cond c.holds (first_broken cs) (Some c.fault)

pub record Range : Type 0 where
  pub low : ℕ
  pub high : ℕ

abbrev pub range : ℕ → ℕ → Range
range low high = record { low = low; high = high }

abbrev pub in_range : Range → ℕ → Bool
in_range r n = nat_le r.low n && nat_le n r.high

-- 4: each field is a number; the first stands at the spot
abbrev pub number_checks : Spot → List (List ℕ) → List Check
number_checks spot [] = []
number_checks spot (f ∷ fs) =
    check 4 Field spot (is_number f) ∷ number_checks (further spot (length f + 1)) fs

-- 5: each number is in its range
abbrev pub range_checks : Spot → List (List ℕ) → List Range → List Check
range_checks spot [] rs = []
range_checks spot (f ∷ fs) [] = []
range_checks spot (f ∷ fs) (r ∷ rs) =
    check 5 Field spot (in_range r (digits_value 10 f))
    ∷ range_checks (further spot (length f + 1)) fs rs

-- the share of a move as the sheet so far has it, and what a row comes to
abbrev pub share_so_far : Sheet → ℕ → ℕ → ℕ → ℕ
share_so_far s i j t = slice_index s.shares (place s.states i j t)

abbrev pub row_total : Sheet → ℕ → ℕ → ℕ
row_total s t i = sum_by (λ j. share_so_far s i j t) (range_with_len 0 s.states)

-- every row of the last year that has come makes the million; before the first year there is none
abbrev pub full_rows : Sheet → Bool
full_rows s =
    cond (length s.factors == 0) true
    (list_all (λ i. row_total s (length s.factors - 1) i == million) (range_with_len 0 s.states))

-- the pair (i, j) comes after the one before, by i and then by j; and after none it may be any
abbrev pub comes_after : Option (ℕ × ℕ) → ℕ × ℕ → Bool
comes_after None pair = true
comes_after (Some before) pair =
    nat_lt before.0 pair.0 || (before.0 == pair.0 && nat_lt before.1 pair.1)

-- the pair of the last of so many shares of a year, which stand by i and then by j
abbrev pub last_of : ℕ → ℕ → Option (ℕ × ℕ)
last_of m zero = None
last_of m (suc k) = Some (k / m, k % m)

-- how many shares of the last year that has come there are: they end with that of the line before
abbrev pub shares_of_year : Sheet → ℕ
shares_of_year s = length s.shares - (length s.factors - 1) * s.states * s.states

-- the pair of the `T` line before in that year, if there is one
abbrev pub last_pair : Sheet → Option (ℕ × ℕ)
last_pair s = last_of s.states (shares_of_year s)

-- noughts for the shares that have no line, up to a place
abbrev pub padded : List ℕ → ℕ → List ℕ
padded shares to = shares ++ replicate (to - length shares) 0

-- what a kind of line asks for: whether it may stand after the sheet so far, the range of each
-- field, the rules on its numbers after that, and the sheet that it makes
pub record Kind : Type 0 where
  pub may_stand : Bool
  pub ranges : List Range
  pub rules : List ℕ → List Check
  pub makes : List ℕ → Sheet

-- `B;m;n`
abbrev pub basis_line : Columns → Sheet → Spot → Kind
basis_line columns s spot = record {
  may_stand = s.years == 0;
  ranges = range 2 8 ∷ range 1 120 ∷ [];
  rules = λ ns. check 6 Whole spot (nat_le (slice_index ns 1) columns.factors
      && nat_le (slice_index ns 1 * slice_index ns 0 * slice_index ns 0) columns.shares) ∷ [];
  makes = λ ns. record {
    states = slice_index ns 0;
    years = slice_index ns 1;
    factors = [];
    shares = [];
  };
}

-- `D;t;v`
abbrev pub year_line : Sheet → Spot → Kind
year_line s spot = record {
  may_stand = nat_lt (length s.factors) s.years;
  ranges = range 0 (s.years - 1) ∷ range 1 million ∷ [];
  rules = λ ns. check 7 Whole spot (slice_index ns 0 == length s.factors)
      ∷ check 8 Whole spot (full_rows s) ∷ [];
  makes = λ ns. record {
    states = s.states;
    years = s.years;
    factors = s.factors ++ slice_index ns 1 ∷ [];
    shares = s.shares;
  };
}

-- `T;t;i;j;p`
abbrev pub move_line : Sheet → Spot → Kind
move_line s spot = record {
  may_stand = nat_lt 0 (length s.factors);
  ranges = range 0 (s.years - 1) ∷ range 0 (s.states - 1) ∷ range 0 (s.states - 1)
      ∷ range 1 million ∷ [];
  rules = λ ns. check 7 Whole spot (slice_index ns 0 + 1 == length s.factors
      && comes_after (last_pair s) (slice_index ns 1, slice_index ns 2)) ∷ [];
  makes = λ ns. record {
    states = s.states;
    years = s.years;
    factors = s.factors;
    shares =
        padded s.shares (place s.states (slice_index ns 1) (slice_index ns 2) (slice_index ns 0))
        ++ slice_index ns 3 ∷ [];
  };
}

-- `E`
abbrev pub end_line : Sheet → Spot → Kind
end_line s spot = record {
  may_stand = nat_lt 0 s.years && length s.factors == s.years;
  ranges = [];
  rules = λ _. check 8 Whole spot (full_rows s) ∷ [];
  makes = λ _. record {
    states = s.states;
    years = s.years;
    factors = s.factors;
    shares = padded s.shares (s.years * s.states * s.states);
  };
}

-- any other line
abbrev pub no_line : Sheet → Kind
no_line s = record { may_stand = false; ranges = []; rules = λ _. []; makes = λ _. s }

-- by the letter: B, D, T or E
abbrev pub kind : Columns → Sheet → Spot → ℕ → Kind
kind columns s spot letter =
    cond (letter == 66) (basis_line columns s spot)
    (cond (letter == 68) (year_line s spot)
    (cond (letter == 84) (move_line s spot)
    (cond (letter == 69) (end_line s spot) (no_line s))))

-- 3 to 8, for a line of fields after its letter
abbrev pub kind_checks : Spot → List (List ℕ) → Kind → List Check
kind_checks spot fs k =
    check 3 Whole spot (k.may_stand && length fs == length k.ranges)
    ∷ (number_checks (further spot 2) fs
    ++ (range_checks (further spot 2) fs k.ranges ++ k.rules (map (digits_value 10) fs)))

abbrev pub part_checks : Columns → Sheet → Spot → List (List ℕ) → List Check
part_checks columns s spot [] = check 3 Whole spot false ∷ []
part_checks columns s spot (head ∷ fs) = kind_checks spot fs (kind columns s spot (letter_of head))

-- a line feed is among the first 40 bytes
abbrev pub ends_in_time : List ℕ → Bool
ends_in_time bytes = list_any is_line_feed (take 40 bytes)

-- 2 to 8, for the first line of the bytes
abbrev pub line_checks : Columns → Sheet → Spot → List ℕ → List Check
line_checks columns s spot bytes =
    check 2 Whole spot (ends_in_time bytes) ∷ part_checks columns s spot (parts (first_line bytes))

-- the sheet that a line makes of the sheet so far
abbrev pub made_by : Columns → Sheet → Spot → List (List ℕ) → Sheet
made_by columns s spot [] = s
made_by columns s spot (head ∷ fs) =
    (kind columns s spot (letter_of head)).makes (map (digits_value 10) fs)

-- the line is `E`, or begins so
abbrev pub ends_sheet : List (List ℕ) → Bool
ends_sheet [] = false
ends_sheet (head ∷ fs) = letter_of head == 69
