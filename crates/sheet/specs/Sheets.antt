-- A basis as a sheet gives it, and what a sheet is. Assumes nothing.
use Rattle.std.specs.Prelude.{◌≡◌, ℕ, ◌*◌, ◌≤◌, List, ◌++◌, map, pos}
use Rattle.basis.specs.TransitionColumns.{Fit}
use Rattle.basis.specs.TransitionTables.{tabled}
use Rattle.basis.specs.Transitions.{Transitions}
use Rattle.sheet.specs.declared.columns.Columns.{Columns}
use Rattle.sheet.specs.Texts.{text_of}

-- the numbers of states and years, a factor for each year, and the share of each move at its place
pub record Sheet : Type 0 where
  pub states : ℕ
  pub years : ℕ
  pub factors : List ℕ
  pub shares : List ℕ

abbrev pub basis_of : Sheet → Transitions
basis_of s = tabled s.states s.factors s.shares

-- a table basis can take it in
abbrev pub LawfulBasis : Sheet → Type 0
LawfulBasis s = Fit s.states s.years (map pos s.factors) (map pos s.shares)

-- the columns have an entry for each factor and each share of m states and n years
pub record Suffice (columns : Columns) (m n : ℕ) : Type 0 where
  pub for_factors : n ≤ columns.factors
  pub for_shares : n * m * m ≤ columns.shares

-- the bytes are the text of a lawful basis, for which the columns suffice, and then the rest
pub record IsSheet (columns : Columns) (bytes : List ℕ) (s : Sheet) (rest : List ℕ) : Type 0 where
  pub text : bytes ≡ text_of (basis_of s) ++ rest
  pub lawful : LawfulBasis s
  pub room : Suffice columns s.states s.years
