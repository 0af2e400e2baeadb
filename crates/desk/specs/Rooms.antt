-- The room that a text has, and how it is used up. Assumes nothing.
use Rattle.std.specs.Prelude.{◌≡◌, ℕ, ◌+◌, ◌≤◌, List, ◌++◌}
use Rattle.std.specs.String.{string_bytes, string_len, string_capacity}
use Rattle.std.specs.declared.string.String.{String}

module _ {Z : Type 0} where
  -- so many bytes more can be written behind the text without asking for memory
  abbrev pub HasRoom : String Z → ℕ → Type 0
  HasRoom text bytes = string_len text + bytes ≤ string_capacity text

  -- some bytes were written behind the text, so many at most, and no room was lost
  pub record Grows (before after : String Z) (bytes : List ℕ) (most : ℕ) : Type 0 where
    pub written : string_bytes after ≡ string_bytes before ++ bytes
    pub few : string_len after ≤ string_len before + most
    pub kept : string_capacity before ≤ string_capacity after
