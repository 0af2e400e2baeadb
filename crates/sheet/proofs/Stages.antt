-- A line that keeps the rules leads from a sheet so far to the next, and `E` to a whole one.
-- Assumes nothing.
use Rattle.std.proofs.Common.{◌≡◌, ℕ, ◌+◌, ◌*◌, ◌<◌, ◌≤◌, ◌⊎◌, inl, inr, Bool, true, false, List, [], ◌∷◌, ◌++◌, length, None, ◌==◌, eqb-true, refl, sym, ap, ◌∙◌, subst, arith}
use Rattle.std.proofs.lemmas.Bool.Decides.{nat_tests, eqb_tells}
use Rattle.basis.specs.TransitionColumns.{place}
use Rattle.sheet.specs.Checks.{full_rows, kind, basis_line, year_line, move_line, end_line}
use Rattle.sheet.specs.Faults.{SaysSoFar}
use Rattle.sheet.specs.declared.columns.Columns.{Columns}
use Rattle.sheet.specs.Sheets.{Sheet, Suffice, LawfulBasis, basis_of}
use Rattle.sheet.specs.Texts.{line_text, text_of}
use Rattle.sheet.specs.declared.spot.Spot.{Spot}
use Rattle.sheet.proofs.Added.{basis_adds, year_adds, move_adds, end_adds}
use Rattle.sheet.proofs.Begun.{basis_begins, year_begins, move_begins, end_lawful}
use Rattle.sheet.proofs.Kept.{first_none}
use Rattle.sheet.proofs.Pairs.{after_shares}
use Rattle.sheet.proofs.Unbroken.{KeepsKind}

-- the bytes are the text of a lawful basis, for which the columns suffice
pub record Whole (columns : Columns) (s : Sheet) (bytes : List ℕ) : Type 0 where
  pub text : bytes ≡ text_of (basis_of s)
  pub lawful : LawfulBasis s
  pub room : Suffice columns s.states s.years

basis_follows : (columns : Columns) (s : Sheet) (spot : Spot) (before numbers : List ℕ) → SaysSoFar columns s before → KeepsKind (basis_line columns s spot) numbers → SaysSoFar columns ((basis_line columns s spot).makes numbers) (before ++ line_text 66 numbers)
basis_follows columns s spot before [] says keeps = absurd keeps.ranges
basis_follows columns s spot before (m ∷ []) says keeps = absurd keeps.ranges.1
basis_follows columns s spot before (m ∷ (n ∷ (x ∷ xs))) says keeps = absurd keeps.ranges.1.1
basis_follows columns s spot before (m ∷ (n ∷ [])) (inr says) keeps = let years = says.0.least_years in let stands = keeps.stands in absurd (grind (arith, nat_tests))
basis_follows columns s spot before (m ∷ (n ∷ [])) (inl says) keeps =
    let room = (first_none _ _ None keeps.rules).0 in
    let in_m = keeps.ranges.0 in
    let in_n = keeps.ranges.1.0 in
    inr (basis_begins columns m n in_m.0 in_m.1 in_n.0 in_n.1 (record { for_factors = grind (arith, nat_tests); for_shares = grind (arith, nat_tests) }), ap (λ bytes. bytes ++ line_text 66 (m ∷ n ∷ [])) says.1 ∙ sym (basis_adds m n))

year_follows : (columns : Columns) (s : Sheet) (spot : Spot) (before numbers : List ℕ) → SaysSoFar columns s before → KeepsKind (year_line s spot) numbers → SaysSoFar columns ((year_line s spot).makes numbers) (before ++ line_text 68 numbers)
year_follows columns s spot before [] says keeps = absurd keeps.ranges
year_follows columns s spot before (t ∷ []) says keeps = absurd keeps.ranges.1
year_follows columns s spot before (t ∷ (v ∷ (x ∷ xs))) says keeps = absurd keeps.ranges.1.1
year_follows columns s spot before (t ∷ (v ∷ [])) (inl says) keeps = let none : s.years ≡ 0 = ap (λ (x : Sheet). x.years) says.0 in let stands = keeps.stands in absurd (grind (arith, nat_tests))
year_follows columns s spot before (t ∷ (v ∷ [])) (inr says) keeps =
    let begun = says.0 in
    let a = first_none _ _ _ keeps.rules in
    let full : full_rows s ≡ true = (first_none _ _ None a.1).0 in
    let is : t ≡ length s.factors = eqb-true t (length s.factors) a.0 in
    let in_v = keeps.ranges.1.0 in
    let stands = keeps.stands in
    let come : length s.factors < s.years = grind (arith, nat_tests) in
    inr (year_begins columns s v begun come in_v.0 in_v.1 full, ap (λ k. before ++ line_text 68 (k ∷ v ∷ [])) is ∙ ap (λ bytes. bytes ++ line_text 68 (length s.factors ∷ v ∷ [])) says.1 ∙ sym (year_adds s.states s.years s.factors s.shares v begun.places))

move_follows : (columns : Columns) (s : Sheet) (spot : Spot) (before numbers : List ℕ) → SaysSoFar columns s before → KeepsKind (move_line s spot) numbers → SaysSoFar columns ((move_line s spot).makes numbers) (before ++ line_text 84 numbers)
move_follows columns s spot before [] says keeps = absurd keeps.ranges
move_follows columns s spot before (t ∷ []) says keeps = absurd keeps.ranges.1
move_follows columns s spot before (t ∷ (i ∷ [])) says keeps = absurd keeps.ranges.1.1
move_follows columns s spot before (t ∷ (i ∷ (j ∷ []))) says keeps = absurd keeps.ranges.1.1.1
move_follows columns s spot before (t ∷ (i ∷ (j ∷ (p ∷ (x ∷ xs))))) says keeps = absurd keeps.ranges.1.1.1.1
move_follows columns s spot before (t ∷ (i ∷ (j ∷ (p ∷ [])))) (inl says) keeps = let none : length s.factors ≡ 0 = ap (λ (x : Sheet). length x.factors) says.0 in let stands = keeps.stands in absurd (grind (arith, nat_tests))
move_follows columns s spot before (t ∷ (i ∷ (j ∷ (p ∷ [])))) (inr says) keeps =
    let begun = says.0 in
    let two = begun.least_states in
    let order = (first_none _ _ None keeps.rules).0 in
    let last : t + 1 ≡ length s.factors = grind (arith, nat_tests) in
    let within : i < s.states = omega (arith, keeps.ranges.1.0) in
    let inside : j < s.states = omega (arith, keeps.ranges.1.1.0) in
    let after = after_shares s i j t last inside in
    let short : length s.shares ≤ place s.states i j t = grind (arith, nat_tests) in
    let in_p = keeps.ranges.1.1.1.0 in
    inr (move_begins columns s t i j p begun last within inside in_p.0 in_p.1 short, ap (λ bytes. bytes ++ line_text 84 (t ∷ i ∷ j ∷ p ∷ [])) says.1 ∙ sym (move_adds s.states s.years s.factors s.shares t i j p last within inside in_p.0 short))

end_follows : (columns : Columns) (s : Sheet) (spot : Spot) (before numbers : List ℕ) → SaysSoFar columns s before → KeepsKind (end_line s spot) numbers → Whole columns ((end_line s spot).makes numbers) (before ++ line_text 69 numbers)
end_follows columns s spot before (x ∷ xs) says keeps = absurd keeps.ranges
end_follows columns s spot before [] (inl says) keeps = let none : s.years ≡ 0 = ap (λ (x : Sheet). x.years) says.0 in let stands = keeps.stands in absurd (grind (arith, nat_tests))
end_follows columns s spot before [] (inr says) keeps =
    let begun = says.0 in
    let stands = keeps.stands in
    let come : length s.factors ≡ s.years = grind (arith, nat_tests) in
    let full : full_rows s ≡ true = (first_none _ _ None keeps.rules).0 in
    record {
      text = ap (λ bytes. bytes ++ line_text 69 []) says.1 ∙ sym (end_adds s.states s.years (s.years * s.states * s.states) s.factors s.shares come);
      lawful = end_lawful columns s begun come full;
      room = begun.room;
    }

-- the whole sheet after `E`, else the next sheet so far
abbrev pub Next : Columns → Sheet → List ℕ → Bool → Type 0
Next columns s bytes ends = ((ends ≡ true) × Whole columns s bytes) ⊎ ((ends ≡ false) × SaysSoFar columns s bytes)

-- a letter that may stand is one of the four
letters : (columns : Columns) (s : Sheet) (spot : Spot) (letter : ℕ) → (kind columns s spot letter).may_stand ≡ true → (letter ≡ 66) ⊎ ((letter ≡ 68) ⊎ ((letter ≡ 84) ⊎ (letter ≡ 69)))
letters columns s spot letter h =
    elim (eqb_tells letter 66) [
      | inl a ↦ inl a.1
      | inr a ↦ elim (eqb_tells letter 68) [
        | inl b ↦ inr (inl b.1)
        | inr b ↦ elim (eqb_tells letter 84) [
          | inl c ↦ inr (inr (inl c.1))
          | inr c ↦ elim (eqb_tells letter 69) [
            | inl d ↦ inr (inr (inr d.1))
            | inr d ↦ let no : false ≡ true = rw (a.0, b.0, c.0, d.0) at h in grind arith
          ]
        ]
      ]
    ]

pub line_follows : (columns : Columns) (s : Sheet) (spot : Spot) (letter : ℕ) (before numbers : List ℕ) → SaysSoFar columns s before → KeepsKind (kind columns s spot letter) numbers → Next columns ((kind columns s spot letter).makes numbers) (before ++ line_text letter numbers) (letter == 69)
line_follows columns s spot letter before numbers says keeps =
    let P : ℕ → Type 0 = λ c. KeepsKind (kind columns s spot c) numbers → Next columns ((kind columns s spot c).makes numbers) (before ++ line_text c numbers) (c == 69) in
    elim (letters columns s spot letter keeps.stands) [
      | inl e ↦ subst P (sym e) (λ k. inr (refl, basis_follows columns s spot before numbers says k)) keeps
      | inr e ↦ elim e [
        | inl e ↦ subst P (sym e) (λ k. inr (refl, year_follows columns s spot before numbers says k)) keeps
        | inr e ↦ elim e [
          | inl e ↦ subst P (sym e) (λ k. inr (refl, move_follows columns s spot before numbers says k)) keeps
          | inr e ↦ subst P (sym e) (λ k. inl (refl, end_follows columns s spot before numbers says k)) keeps
        ]
      ]
    ]
