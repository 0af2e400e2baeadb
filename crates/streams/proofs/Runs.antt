-- Runs, by what they read and wrote. Assumes nothing.
use Rattle.std.proofs.Common.{◌++◌, ℕ, ◌≤◌, List, length, Option, None, Some, IfSome, Result, Ok, Err, MatchResult, inl, inr, refl, sym, subst, ap, ◌∙◌, arith}
use Rattle.std.proofs.lemmas.Bool.{cases_lt}
use Rattle.std.proofs.lemmas.List.{append-nil, length-append}
use Rattle.std.specs.Io.KnownBytes.{Appends, Keeps}
use Rattle.streams.specs.Runs.{IsAnswered, Runs}
use Rattle.streams.specs.Streams.{IsRead, IsWrittenInPart}

-- what a run that ended before it wrote leaves
pub keeps_same : (known : Option (List ℕ)) → Keeps known known
keeps_same None = tt
keeps_same (Some xs) = refl

module _ (Answers : List ℕ → List ℕ → Type 0) (room : ℕ) (before after : Option (List ℕ)) where
  module _ (longer : (bytes input text : List ℕ) → room ≤ length bytes → room ≤ length input → Answers bytes text → Answers input text) where
    whole : (bytes text : List ℕ) → (known left : Option (List ℕ)) → IsRead room known left bytes → Answers bytes text → IfSome known (λ input. Answers input text)
    whole bytes text None left read answers = tt
    whole bytes text (Some input) None read answers = absurd read.consumed
    whole bytes text (Some input) (Some left) read answers = elim (cases_lt (length bytes) room) [
      | inl fewer ↦ subst (λ xs. Answers xs text) (sym (read.consumed ∙ (ap (λ xs. bytes ++ xs) (read.end fewer) ∙ append-nil bytes))) answers
      | inr full ↦ (let sum = ap length read.consumed ∙ length-append bytes left in longer bytes input text full (omega (arith, full, sum)) answers)
    ]

    -- where inputs that fill the room have the answers of what is read of them
    pub answered : (bytes text : List ℕ) → IsRead room before after bytes → Answers bytes text → IsAnswered Answers room before after text
    answered bytes text read answers = record { bytes = bytes; read = read; answer = answers; whole = whole bytes text before after read answers }

  module _ {E : Type 0} (result : Result Unit E) where
    pub ran : (held holds : Option (List ℕ)) (text : List ℕ) → IsAnswered Answers room before after text → MatchResult result (λ _. Appends held holds text) (λ _. IsWrittenInPart held holds text) → Runs Answers room before after held holds result
    ran held holds text is wrote = elim result as (λ r. MatchResult r (λ _. Appends held holds text) (λ _. IsWrittenInPart held holds text) → Runs Answers room before after held holds r) [ Ok _ ↦ λ all. (text, is, all) | Err _ ↦ λ some. inr (text, is, some) ] wrote
