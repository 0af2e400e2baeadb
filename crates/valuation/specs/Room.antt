-- Figures that leave room for an amount: a million times their sum with it still fits 64 bits.
-- Assumes nothing.
use Rattle.std.specs.Prelude.{ℕ, List, get_or, ℤ, pos}
use Rattle.std.proofs.Common.{rules}
use Rattle.units.specs.Near.{Within}
use Rattle.valuation.specs.declared.span.ends.Ends.{Ends}
use Rattle.valuation.specs.SpanOperations.{nought, EndsWithin}

abbrev pub IsRoomy : ℤ → Type 0
IsRoomy = Within 4580000000000

pub nought_is_roomy : IsRoomy (pos 0)
nought_is_roomy = Prim.search rules

abbrev pub AreRoomy : Ends → Type 0
AreRoomy = EndsWithin 4580000000000

pub noughts_are_roomy : AreRoomy nought
noughts_are_roomy = Prim.search rules

-- all figures of a list leave room, and so does the figure of nothing, which stands for others
abbrev pub AllRoomy : {F : Type 0} → (F → Type 0) → F → List F → Type 0
AllRoomy leaves_room nothing figures = (j : ℕ) → leaves_room (get_or figures j nothing)
