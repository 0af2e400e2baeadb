-- A line that breaks no rule is a letter and numbers that keep the rules of their kind. Assumes
-- nothing.
use Rattle.std.proofs.Common.{◌≡◌, ℕ, ◌+◌, ◌<◌, ◌≤◌, Bool, true, false, cond, ◌&&◌, inl, inr, List, [], ◌∷◌, ◌++◌, map, length, take, get_or, Option, Some, None, ◌==◌, decimal, flat_map, count_by, eqb-true, refl, sym, ap, ap₂, ◌∙◌, append-nil, append_assoc, length-append, get_or-take, length-take, arith}
use Rattle.std.specs.List.{All, join_with_byte, position_or_len}
use Rattle.std.specs.Str.Parse.{digits_value}
use Rattle.std.proofs.lemmas.Bool.{cases_lt}
use Rattle.std.proofs.lemmas.Bool.Decides.{nat_tests}
use Rattle.std.proofs.lemmas.List.Elements.{All-from_get_or}
use Rattle.std.proofs.lemmas.List.Folds.{Any-from_list_any}
use Rattle.std.proofs.lemmas.List.Splits.{join_with_byte-slice_split, slice_split_none, length-slice_split}
use Rattle.std.proofs.lemmas.List.Sums.{sum_by-append, split_at_first, passes_at_first, fails_before_first}
use Rattle.units.specs.declared.fault.Fault.{Fault}
use Rattle.sheet.specs.Checks.{Check, Kind, Range, first_broken, number_checks, range_checks, kind_checks, made_by, part_checks, line_checks, kind, in_range, ends_in_time, ends_sheet}
use Rattle.sheet.specs.Faults.{spot_past}
use Rattle.sheet.specs.Lines.{further, is_line_feed, first_line, after_line, parts, letter_of, spot_after}
use Rattle.sheet.specs.Numerals.{is_number}
use Rattle.sheet.specs.Reading.{with_line}
use Rattle.sheet.specs.declared.columns.Columns.{Columns}
use Rattle.sheet.specs.Sheets.{Sheet}
use Rattle.sheet.specs.Texts.{line_of, line_text}
use Rattle.sheet.specs.declared.spot.Spot.{Spot}
use Rattle.sheet.proofs.Numbers.{number_writes}
use Rattle.sheet.proofs.Unbroken.{InRanges, KeepsKind}

-- ---- no check is broken

pub first_none : (b : Bool) (fault : Fault) (o : Option Fault) → cond b o (Some fault) ≡ None → (b ≡ true) × (o ≡ None)
first_none true fault o h = (refl, h)
first_none false fault o h = grind arith

none_parts : (cs ds : List Check) → first_broken (cs ++ ds) ≡ None → (first_broken cs ≡ None) × (first_broken ds ≡ None)
none_parts [] ds h = (refl, h)
none_parts (c ∷ cs) ds h =
    let p = first_none c.holds c.fault (first_broken (cs ++ ds)) h in
    let q = none_parts cs ds p.1 in
    (rw p.0 q.0, q.1)

numbers_are : (spot : Spot) (fs : List (List ℕ)) → first_broken (number_checks spot fs) ≡ None → flat_map (λ f. 59 ∷ f) fs ≡ flat_map (λ n. 59 ∷ decimal n) (map (digits_value 10) fs)
numbers_are spot [] h = refl
numbers_are spot (f ∷ fs) h =
    let p = first_none (is_number f) _ (first_broken (number_checks (further spot (length f + 1)) fs)) h in
    ap (λ bytes. 59 ∷ bytes) (ap₂ ◌++◌ (number_writes f p.0).text (numbers_are (further spot (length f + 1)) fs p.1))

ranges_are : (spot : Spot) (fs : List (List ℕ)) (rs : List Range) → length fs ≡ length rs → first_broken (range_checks spot fs rs) ≡ None → InRanges (map (digits_value 10) fs) rs
ranges_are spot [] [] count h = tt
ranges_are spot [] (r ∷ rs) count h = absurd (omega arith)
ranges_are spot (f ∷ fs) [] count h = absurd (omega arith)
ranges_are spot (f ∷ fs) (r ∷ rs) count h =
    let p = first_none _ _ (first_broken (range_checks (further spot (length f + 1)) fs rs)) h in
    (inside r (digits_value 10 f) p.0, ranges_are (further spot (length f + 1)) fs rs (omega arith) p.1)
  where
    inside : (r : Range) (n : ℕ) → in_range r n ≡ true → (r.low ≤ n) × (n ≤ r.high)
    inside r n h = (grind (arith, nat_tests), grind (arith, nat_tests))

-- ---- the parts of a line

pub join_is : (head : List ℕ) (fs : List (List ℕ)) → join_with_byte 59 (head ∷ fs) ≡ head ++ flat_map (λ f. 59 ∷ f) fs
join_is head [] = sym (append-nil head)
join_is head (f ∷ fs) = ap (λ bytes. head ++ (59 ∷ bytes)) (join_is f fs)

-- no line of a kind has the letter nought
letter_is : (columns : Columns) (s : Sheet) (spot : Spot) (head : List ℕ) → (kind columns s spot (letter_of head)).may_stand ≡ true → head ≡ letter_of head ∷ []
letter_is columns s spot [] h = grind arith
letter_is columns s spot (c ∷ []) h = refl
letter_is columns s spot (c ∷ (d ∷ ds)) h = grind arith

kind_of_none : (spot : Spot) (fs : List (List ℕ)) (k : Kind) → first_broken (kind_checks spot fs k) ≡ None → KeepsKind k (map (digits_value 10) fs) × (flat_map (λ f. 59 ∷ f) fs ≡ flat_map (λ n. 59 ∷ decimal n) (map (digits_value 10) fs))
kind_of_none spot fs k h =
    let a = first_none _ _ _ h in
    let b = none_parts (number_checks (further spot 2) fs) _ a.1 in
    let c = none_parts (range_checks (further spot 2) fs k.ranges) _ b.1 in
    let stands : k.may_stand ≡ true = and_first k.may_stand _ a.0 in
    let count : length fs ≡ length k.ranges = eqb-true _ _ (and_second k.may_stand _ a.0) in
    (record { stands = stands; ranges = ranges_are (further spot 2) fs k.ranges count c.0; rules = c.1 }, numbers_are (further spot 2) fs b.0)
  where
    and_first : (a b : Bool) → (a && b) ≡ true → a ≡ true
    and_first a b h = grind arith

    and_second : (a b : Bool) → (a && b) ≡ true → b ≡ true
    and_second a b h = grind arith

-- ---- the line feed

feed_found : (bytes : List ℕ) → ends_in_time bytes ≡ true → position_or_len is_line_feed bytes < length bytes
feed_found bytes h =
    let p = Any-from_list_any is_line_feed (take 40 bytes) h in
    let at = p.0 in
    let long = length-take 40 bytes in
    let inside : at < 40 = omega (arith, p.2) in
    let there : is_line_feed (get_or bytes at p.1) ≡ true = ap is_line_feed (sym (get_or-take 40 bytes at p.1 inside) ∙ p.3) ∙ p.4 in
    elim (cases_lt at (position_or_len is_line_feed bytes)) [
      | inl l ↦ let no = fails_before_first is_line_feed bytes at p.1 l in absurd (grind arith)
      | inr l ↦ omega (arith, p.2)
    ]

pub line_cut : (bytes : List ℕ) → ends_in_time bytes ≡ true → bytes ≡ first_line bytes ++ (10 ∷ after_line bytes)
line_cut bytes h =
    let found = feed_found bytes h in
    let feed : get_or bytes (position_or_len is_line_feed bytes) 0 ≡ 10 = eqb-true _ 10 (passes_at_first is_line_feed bytes 0 found) in
    split_at_first is_line_feed bytes 0 found ∙ ap (λ b. first_line bytes ++ (b ∷ after_line bytes)) feed

-- the first line has no line feed
no_feed : (bytes : List ℕ) → count_by is_line_feed (first_line bytes) ≡ 0
no_feed bytes =
    let n = position_or_len is_line_feed bytes in
    let line = first_line bytes in
    let free : All (λ b. is_line_feed b ≡ false) line = All-from_get_or (λ b. is_line_feed b ≡ false) line 0 (λ i inside. let below : i < n = omega (arith, length-take n bytes) in ap is_line_feed (get_or-take n bytes i 0 below) ∙ fails_before_first is_line_feed bytes i 0 below) in
    omega (arith, length-slice_split is_line_feed line, ap length (slice_split_none is_line_feed line free))

pub spot_grows : (before bytes : List ℕ) → spot_after (spot_past before) bytes ≡ spot_past (before ++ (first_line bytes ++ 10 ∷ []))
spot_grows before bytes =
    let line = first_line bytes in
    let lines : count_by is_line_feed (before ++ (line ++ 10 ∷ [])) ≡ count_by is_line_feed before + 1 = omega (arith, sum_by-append (λ b. cond (is_line_feed b) 1 0) before (line ++ 10 ∷ []), sum_by-append (λ b. cond (is_line_feed b) 1 0) line (10 ∷ []), no_feed bytes) in
    let past : length (before ++ (line ++ 10 ∷ [])) ≡ length before + (length line + 1) = omega (arith, length-append before (line ++ 10 ∷ []), length-append line (10 ∷ [])) in
    rw (lines, past)

-- ---- the line

-- the first of the bytes is a line that keeps the rules of its kind
pub record KeptLine (columns : Columns) (s : Sheet) (spot : Spot) (bytes : List ℕ) : Type 0 where
  pub letter : ℕ
  pub numbers : List ℕ
  pub first : first_line bytes ≡ line_of letter numbers
  pub text : bytes ≡ line_text letter numbers ++ after_line bytes
  pub keeps : KeepsKind (kind columns s spot letter) numbers
  pub makes : with_line columns s spot bytes ≡ (kind columns s spot letter).makes numbers
  pub ends : ends_sheet (parts (first_line bytes)) ≡ (letter == 69)

line_by_parts : (columns : Columns) (s : Sheet) (spot : Spot) (bytes : List ℕ) (ps : List (List ℕ)) → ends_in_time bytes ≡ true → parts (first_line bytes) ≡ ps → first_broken (part_checks columns s spot ps) ≡ None → KeptLine columns s spot bytes
line_by_parts columns s spot bytes [] time e h = grind arith
line_by_parts columns s spot bytes (head ∷ fs) time e h =
    let p = kind_of_none spot fs (kind columns s spot (letter_of head)) h in
    let whole : first_line bytes ≡ join_with_byte 59 (head ∷ fs) = sym (join_with_byte-slice_split 59 (first_line bytes)) ∙ ap (join_with_byte 59) e in
    let first : first_line bytes ≡ line_of (letter_of head) (map (digits_value 10) fs) = whole ∙ join_is head fs ∙ ap₂ ◌++◌ (letter_is columns s spot head p.0.stands) p.1 in
    record {
      letter = letter_of head;
      numbers = map (digits_value 10) fs;
      first = first;
      text = line_cut bytes time ∙ ap (λ line. line ++ (10 ∷ after_line bytes)) first ∙ sym (append_assoc (line_of (letter_of head) (map (digits_value 10) fs)) (10 ∷ []) (after_line bytes));
      keeps = p.0;
      makes = ap (made_by columns s spot) e;
      ends = ap ends_sheet e;
    }

pub kept_line : (columns : Columns) (s : Sheet) (spot : Spot) (bytes : List ℕ) → first_broken (line_checks columns s spot bytes) ≡ None → KeptLine columns s spot bytes
kept_line columns s spot bytes h =
    let p = first_none _ _ (first_broken (part_checks columns s spot (parts (first_line bytes)))) h in
    line_by_parts columns s spot bytes (parts (first_line bytes)) p.0 refl p.1
