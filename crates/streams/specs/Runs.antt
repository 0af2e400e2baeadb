-- Runs that answer all that is read by one text, where the bytes of the streams are known. Assumes
-- nothing.
use Rattle.std.specs.Prelude.{◌⊎◌, ℕ, List, Option, IfSome, Result, Ok, Err}
use Rattle.std.specs.Io.KnownBytes.{Appends, Keeps}
use Rattle.streams.specs.Streams.{IsRead, IsWrittenInPart}

module _ (Answers : List ℕ → List ℕ → Type 0) (room : ℕ) (before after : Option (List ℕ)) where
  -- the bytes were read, and this text answers them. Where the whole input is known, it answers
  -- that too, however much of it was left unread
  pub record IsAnswered (text : List ℕ) : Type 0 where
    pub bytes : List ℕ
    pub read : IsRead room before after bytes
    pub answer : Answers bytes text
    pub whole : IfSome before (λ input. Answers input text)

  -- what was read is answered, and nothing else is written; or it ended with an error: nothing was
  -- written, or a front of the answer
  abbrev pub Runs : {E : Type 0} → Option (List ℕ) → Option (List ℕ) → Result Unit E → Type 0
  Runs held holds (Ok _) = (text : List ℕ) × IsAnswered text × Appends held holds text
  Runs held holds (Err _) =
      Keeps held holds
      ⊎ ((text : List ℕ) × IsAnswered text × IsWrittenInPart held holds text)
