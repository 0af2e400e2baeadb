-- A text that is collected first, and then written whole. Assumes nothing.
use Rattle.std.proofs.Common.{◌≡◌, ℕ, List, [], ◌∷◌, ◌++◌, append_assoc, append-nil, Option, Some, None, IfSome, sym, ap, subst, ◌∙◌}
use Rattle.std.specs.List.{concat, FoldsTo}
use Rattle.std.specs.Fmt.{WritesText, WritesOnOk, WritesStyledOnOk, DisplaysOnOk, DisplaysStyledOnOk}
use Rattle.std.specs.Fmt.InlineText.{inline_text, IsIntact, AppendsIfIntact}

after_calls : {n : ℕ} (s : _) (parts : List (List ℕ)) (t : _)
    → FoldsTo (AppendsIfIntact {n = n}) s parts t → AppendsIfIntact s (concat parts) t
after_calls s [] t same intact =
    (subst IsIntact same intact, ap inline_text (sym same) ∙ sym (append-nil (inline_text s)))
after_calls s (x ∷ parts) t calls intact =
    let first = calls.1 intact in
    let rest = after_calls calls.0 parts t calls.2 first.0 in (
      rest.0,
      rest.1 ∙ ap (λ l. l ++ concat parts) first.1
          ∙ append_assoc (inline_text s) x (concat parts),
    )

-- what is collected from nothing on is the text that was to be written
pub collected : {n : ℕ} (o : Option (List ℕ)) (s t : _)
    → IsIntact {n = n} s → inline_text s ≡ [] → WritesText AppendsIfIntact s o t → IfSome o (λ bs. inline_text t ≡ bs)
collected None s t intact empty wrote = tt
collected (Some bs) s t intact empty wrote =
    (after_calls s wrote.parts t wrote.calls intact).1
    ∙ ap (λ l. l ++ concat wrote.parts) empty ∙ wrote.whole

pub written_plain : {W : Type 0} (took : W → List ℕ → W → Type 0) (f g : _) (r : _)
    (o : Option (List ℕ)) (text : List ℕ) → IfSome o (λ bs. text ≡ bs) → WritesOnOk took f r text g
    → DisplaysOnOk took f r o g
written_plain took f g r None text same wrote = tt
written_plain took f g r (Some bs) text same wrote = subst (λ l. WritesOnOk took f r l g) same wrote

pub written_styled : {W : Type 0} (took : W → List ℕ → W → Type 0) (f g : _) (r : _)
    (o : Option (List ℕ)) (text : List ℕ) → IfSome o (λ bs. text ≡ bs) → WritesStyledOnOk took f r text g
    → DisplaysStyledOnOk took f r o g
written_styled took f g r None text same wrote = tt
written_styled took f g r (Some bs) text same wrote =
    subst (λ l. WritesStyledOnOk took f r l g) same wrote
