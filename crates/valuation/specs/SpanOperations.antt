-- The span as a valuation: figures are pairs of ends, and a join goes over what follows moves that have a share. Assumes nothing.
use Rattle.std.specs.Prelude.{ℕ, cond, nat_lt, List, [], ◌∷◌, map, Option, None, Some, ℤ, pos}
use Rattle.std.specs.Int.{int_min, int_max}
use Rattle.units.specs.Near.{Within}
use Rattle.valuation.specs.declared.span.ends.Ends.{Ends}
use Rattle.valuation.specs.Extremes.{smallest, largest}
use Rattle.valuation.specs.Means.{mean, LawfulFigure}
use Rattle.valuation.specs.Operations.{Operations}

-- what follows moves that have a share
abbrev pub possible : {F : Type 0} → List ℕ → List F → List F
possible [] xs = []
possible (p ∷ ps) [] = []
possible (p ∷ ps) (x ∷ xs) = cond (nat_lt 0 p) (x ∷ possible ps xs) (possible ps xs)

-- the smallest and the largest end
abbrev pub hull : List Ends → Ends
hull xs = record { least = smallest (map (λ x. x.least) xs); greatest = largest (map (λ x. x.greatest) xs) }

-- sums and discounting are those of the mean, at each end
abbrev pub span : Operations Ends
span = record {
  make = λ a. record { least = a; greatest = a };
  add = λ x a. record { least = mean.add x.least a; greatest = mean.add x.greatest a };
  join = λ i row xs. hull (possible row xs);
  discount = λ factor x. record { least = mean.discount factor x.least; greatest = mean.discount factor x.greatest };
}

abbrev pub span_ends : Ends → List ℤ
span_ends x = x.least ∷ x.greatest ∷ []

abbrev pub nought : Ends
nought = record { least = pos 0; greatest = pos 0 }

-- both ends of what has come so far, if anything has, and of one more
abbrev pub widest : Option Ends → Ends → Ends
widest None x = x
widest (Some e) x = record {
  least = int_min e.least x.least;
  greatest = int_max e.greatest x.greatest;
}

-- both ends are so near to nought
pub record EndsWithin (d : ℕ) (x : Ends) : Type 0 where
  pub least : Within d x.least
  pub greatest : Within d x.greatest

-- where every answer is fixed
pub record LawfulEnds (x : Ends) : Type 0 where
  pub least : LawfulFigure x.least
  pub greatest : LawfulFigure x.greatest
