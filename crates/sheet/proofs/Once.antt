-- Reading comes to one outcome. Assumes nothing.
use Rattle.std.proofs.Common.{◌≡◌, ℕ, List, refl, arith}
use Rattle.sheet.specs.declared.columns.Columns.{Columns}
use Rattle.sheet.specs.Sheets.{Sheet}
use Rattle.sheet.specs.Reading.{Outcome, Reads, breaks, ends_here, goes_on}
use Rattle.sheet.specs.declared.spot.Spot.{Spot}

pub one_outcome : (columns : Columns) (s : Sheet) (spot : Spot) (bytes : List ℕ) (a b : Outcome) → Reads columns s spot bytes a → Reads columns s spot bytes b → a ≡ b
one_outcome columns _ _ _ _ _ (breaks _ _ _ f h) (breaks _ _ _ g k) = grind arith
one_outcome columns _ _ _ _ _ (breaks _ _ _ f h) (ends_here _ _ _ k e) = grind arith
one_outcome columns _ _ _ _ b (breaks _ _ _ f h) (goes_on _ _ _ o k e r) = grind arith
one_outcome columns _ _ _ _ _ (ends_here _ _ _ h d) (breaks _ _ _ g k) = grind arith
one_outcome columns _ _ _ _ _ (ends_here _ _ _ h d) (ends_here _ _ _ k e) = refl
one_outcome columns _ _ _ _ _ (ends_here _ _ _ h d) (goes_on _ _ _ o k e r) = grind arith
one_outcome columns _ _ _ _ _ (goes_on _ _ _ n h d q) (breaks _ _ _ g k) = grind arith
one_outcome columns _ _ _ _ _ (goes_on _ _ _ n h d q) (ends_here _ _ _ k e) = grind arith
one_outcome columns s spot bytes a b (goes_on _ _ _ n h d q) (goes_on _ _ _ o k e r) = one_outcome columns _ _ _ a b q r
