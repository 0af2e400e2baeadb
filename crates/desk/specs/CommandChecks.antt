-- The rules of a command, in the order in which they are checked. Assumes nothing.
use Rattle.std.specs.Prelude.{ℕ, ◌+◌, min, Bool, true, false, cond, not, ◌&&◌, List, [], ◌∷◌, ◌++◌, map, length, ◌==◌, slice_index}
use Rattle.std.specs.Str.Parse.{digits_value}
use Rattle.units.specs.Ranges.{limit}
use Rattle.units.specs.declared.fault.Layer.TheVariants.{Field, Sheet as Whole}
use Rattle.sheet.specs.Checks.{Check, Range, check, range, range_checks}
use Rattle.sheet.specs.Lines.{further, parts, letter_of}
use Rattle.sheet.specs.Numerals.{is_number}
use Rattle.sheet.specs.declared.spot.Spot.{Spot}

-- a number, or a minus and a number above nought
abbrev pub is_signed : List ℕ → Bool
is_signed [] = false
is_signed (c ∷ cs) = cond (c == 45) (is_number cs && not (digits_value 10 cs == 0)) (is_number (c ∷ cs))

-- what a letter asks for: whether it is that of a command, what each field has to be, and the range
-- of each number by all of them
pub record Kind : Type 0 where
  pub known : Bool
  pub forms : List (List ℕ → Bool)
  pub ranges : List ℕ → List Range

-- from one year up to the last of the basis
abbrev pub term_range : ℕ → Range
term_range years = range 1 (min years 120)

-- the sum, the term and the paying years of an endowment
abbrev pub plan_ranges : ℕ → List ℕ → List Range
plan_ranges years ns = range 0 limit ∷ term_range years ∷ range 0 (slice_index ns 1) ∷ []

-- `Q;S;k;g;d`
abbrev pub issue_line : ℕ → Kind
issue_line years = record {
  known = true;
  forms = is_number ∷ is_number ∷ is_number ∷ is_number ∷ [];
  ranges = λ ns. plan_ranges years ns ++ range 0 limit ∷ [];
}

-- `C;j;r`; a rate has no range
abbrev pub close_line : Kind
close_line = record { known = true; forms = is_number ∷ is_signed ∷ []; ranges = λ _. range 0 7 ∷ [] }

-- `A;S;k;g`
abbrev pub alter_line : ℕ → Kind
alter_line years = record {
  known = true;
  forms = is_number ∷ is_number ∷ is_number ∷ [];
  ranges = plan_ranges years;
}

-- `L`
abbrev pub leave_line : Kind
leave_line = record { known = true; forms = []; ranges = λ _. [] }

-- any other line
abbrev pub no_line : Kind
no_line = record { known = false; forms = []; ranges = λ _. [] }

-- by the letter: Q, C, A or L
abbrev pub kind : ℕ → ℕ → Kind
kind years letter = cond (letter == 81) (issue_line years) (cond (letter == 67) close_line (cond (letter == 65) (alter_line years) (cond (letter == 76) leave_line no_line)))

-- 4: each field has its form; the first stands at the spot
abbrev pub form_checks : Spot → List (List ℕ) → List (List ℕ → Bool) → List Check
form_checks spot [] forms = []
form_checks spot (f ∷ fs) [] = []
form_checks spot (f ∷ fs) (form ∷ forms) = check 4 Field spot (form f) ∷ form_checks (further spot (length f + 1)) fs forms

-- 3 to 5, for a line of fields after its letter
abbrev pub kind_checks : Spot → List (List ℕ) → Kind → List Check
kind_checks spot fs k =
    check 3 Whole spot (k.known && length fs == length k.forms) ∷ (form_checks (further spot 2) fs k.forms ++ range_checks (further spot 2) fs (k.ranges (map (digits_value 10) fs)))

abbrev pub line_checks : ℕ → Spot → List (List ℕ) → List Check
line_checks years spot [] = check 3 Whole spot false ∷ []
line_checks years spot (head ∷ fs) = kind_checks spot fs (kind years (letter_of head))

-- `Q` comes where no contract stands, and the others where one does
abbrev pub finds : Bool → List (List ℕ) → Bool
finds stands [] = stands
finds stands (head ∷ fs) = cond (letter_of head == 81) (not stands) stands

-- 3, 4, 5 and 13, for the bytes of a line without its line feed, which begins at the spot
abbrev pub command_checks : ℕ → Bool → Spot → List ℕ → List Check
command_checks years stands spot line = line_checks years spot (parts line) ++ check 13 Whole spot (finds stands (parts line)) ∷ []
