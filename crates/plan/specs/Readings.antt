-- Reading the entries of a column, each by itself. Assumes nothing.
use Rattle.std.specs.Prelude.{◌≡◌, ℕ, ◌<◌, List, length, ℤ, pos, slice_index_or}

-- each entry may be read
abbrev pub MayReadEach : (ℤ → Type 0) → List ℤ → Type 0
MayReadEach may column = (p : ℕ) → p < length column → may (slice_index_or column p (pos 0))

-- `value` gives back each entry from whatever it is read as
abbrev pub GivesBack : {T : Type 0} → (T → ℤ) → (ℤ → T → Type 0) → List ℤ → Type 0
GivesBack {T} value reads column = (p : ℕ) (y : T) → p < length column → reads (slice_index_or column p (pos 0)) y → value y ≡ slice_index_or column p (pos 0)
