-- That operations keep order is a fact: it has one proof at most. Assumes nothing.
use Rattle.std.specs.Prelude.{List, [], ◌∷◌, ℤ, ◌≤ℤ◌}
use Rattle.std.specs.Coded.{×_prop, Unit-prop}
use Rattle.std.specs.List.{AllZip}
use Rattle.std.proofs.Props.{props}
use Rattle.valuation.specs.Operations.{Operations, EndByEnd, Ordered}

all_zip-prop : (xs ys : List ℤ) → IsProp (AllZip ◌≤ℤ◌ xs ys)
all_zip-prop [] [] = Unit-prop
all_zip-prop [] (y ∷ ys) = λ a b. absurd a
all_zip-prop (x ∷ xs) [] = λ a b. absurd a
all_zip-prop (x ∷ xs) (y ∷ ys) = ×_prop (Prim.hlevel props) (all_zip-prop xs ys)

EndByEnd-prop : {F : Type 0} (ends : F → List ℤ) (x y : F) → IsProp (EndByEnd ends x y)
EndByEnd-prop ends x y = all_zip-prop (ends x) (ends y)

pub Ordered-prop : {F : Type 0} (ends : F → List ℤ) (v : Operations F) → IsProp (Ordered ends v)
Ordered-prop ends v = Prim.hlevel (EndByEnd-prop, props)
