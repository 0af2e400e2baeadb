-- What is read of a stream and written to one, where its bytes are known. Assumes nothing.
use Rattle.std.specs.Prelude.{ℕ, ◌+◌, ◌<◌, ◌≤◌, List, length, take, Option, None, Some, Result, Ok, Err}
use Rattle.std.specs.Io.KnownBytes.{Appends, Consumes, IsAtEnd, Keeps}

-- no input has more bytes
abbrev pub most_bytes : ℕ
most_bytes = 60000

-- a byte more than the longest input, which shows that an input is longer
abbrev pub most_read : ℕ
most_read = most_bytes + 1

-- these bytes were read, no more than there is room for, and fewer only at the end
pub record IsRead (room : ℕ) (before after : Option (List ℕ)) (bytes : List ℕ) : Type 0 where
  pub consumed : Consumes before after bytes
  pub fits : length bytes ≤ room
  pub end : length bytes < room → IsAtEnd after

-- some bytes were read, no more than there is room for
pub record IsReadInPart (room : ℕ) (before after : Option (List ℕ)) : Type 0 where
  pub bytes : List ℕ
  pub consumed : Consumes before after bytes
  pub fits : length bytes ≤ room

-- a front of the bytes was written, and nothing else
pub record IsWrittenInPart (before after : Option (List ℕ)) (bytes : List ℕ) : Type 0 where
  pub count : ℕ
  pub appended : Appends before after (take count bytes)

-- one read: bytes came to the front of the buffer, or it was at the end, or failed
abbrev pub ReadsOnce :
    {E : Type 0} →
    Option (List ℕ) → Option (List ℕ) → List ℕ → Result (Option ℕ) E → Type 0
ReadsOnce before after buffer (Ok (Some n)) =
    Consumes before after (take n buffer) × (n ≤ length buffer)
ReadsOnce before after buffer (Ok None) = Keeps before after × (0 < length buffer → IsAtEnd after)
ReadsOnce before after buffer (Err _) = Keeps before after

-- one write: a front of the bytes was taken, or it failed
abbrev pub WritesOnce :
    {E : Type 0} →
    Option (List ℕ) → Option (List ℕ) → List ℕ → Result ℕ E → Type 0
WritesOnce before after bytes (Ok n) = Appends before after (take n bytes) × (n ≤ length bytes)
WritesOnce before after bytes (Err _) = Keeps before after
