-- Texts that grow by a part at a time. Assumes nothing.
use Rattle.std.proofs.Common.{◌≡◌, ℕ, ◌+◌, List, [], ◌∷◌, ◌++◌, flat_map, append_assoc, add-one, sym, ap, ap₂, ◌∙◌, arith}
use Rattle.std.specs.List.{range_with_len}
use Rattle.std.specs.Fmt.{decimal}
use Rattle.basis.specs.Transitions.{Transitions}
use Rattle.sheet.specs.Texts.{years_text, text_of}
use Rattle.sheet.proofs.Joins.{join_more}

pub one_more : (f : ℕ → List ℕ) (n : ℕ) (first old new : List ℕ)
    → old ≡ first ++ flat_map f (range_with_len 0 n) → new ≡ old ++ f n
    → new ≡ first ++ flat_map f (range_with_len 0 (n + 1))
one_more f n first old new before part =
    let last : 0 + n ≡ n = omega arith in
    part
    ∙ ap (λ xs. xs ++ f n) before
    ∙ append_assoc first (flat_map f (range_with_len 0 n)) (f n)
    ∙ ap (λ k. first ++ (flat_map f (range_with_len 0 n) ++ f k)) (sym last)
    ∙ ap (λ xs. first ++ xs) (sym (join_more f 0 n))
    ∙ ap (λ k. first ++ flat_map f (range_with_len 0 k)) (sym (add-one n))

-- the first line of a basis of m states and n years
abbrev first_line : ℕ → ℕ → List ℕ
first_line m n = 66 ∷ 59 ∷ (decimal m ++ (59 ∷ (decimal n ++ (10 ∷ []))))

joined : (states years body : List ℕ)
    → ((66 ∷ 59 ∷ (states ++ (59 ∷ (years ++ (10 ∷ []))))) ++ body) ++ (69 ∷ 10 ∷ [])
    ≡ 66 ∷ 59 ∷ (((states ++ (59 ∷ (years ++ []))) ++ (10 ∷ [])) ++ (body ++ (69 ∷ 10 ∷ [])))
joined states years body = simp append_assoc

-- a text that is empty, has the first line then, then the years below k, and last the end
pub whole : (c : Transitions) (m n k : ℕ) (empty first years closed : List ℕ)
    → m ≡ c.states → n ≡ c.years → k ≡ n → empty ≡ []
    → first ≡ empty ++ (66 ∷ 59 ∷ (decimal m ++ (59 ∷ (decimal n ++ (10 ∷ [])))))
    → years ≡ first ++ years_text c k → closed ≡ years ++ (69 ∷ 10 ∷ [])
    → closed ≡ text_of c
whole c m n k empty first years closed states_are years_are all none begun written ended =
    let begins : first ≡ first_line c.states c.years = begun ∙ ap (λ xs. xs ++ first_line m n) none ∙ ap₂ first_line states_are years_are in
    ended
    ∙ ap (λ xs. xs ++ (69 ∷ 10 ∷ [])) (written ∙ ap₂ (λ xs j. xs ++ years_text c j) begins (all ∙ years_are))
    ∙ joined (decimal c.states) (decimal c.years) (years_text c c.years)
