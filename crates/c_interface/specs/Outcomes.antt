-- What a call from C answers, and what it leaves where it writes. Assumes nothing.
use Rattle.std.specs.Prelude.{◌≡◌, ℕ, ◌<◌, ◌≤◌, List, length, ℤ, pos, negsuc, IsOk}
use Rattle.std.specs.Prelude.{slice_index_or, unsigned_abs}
use Rattle.units.specs.Columns.{AllBetween}
use Rattle.units.specs.Ranges.{limit, WithinLimit}
use Rattle.units.specs.declared.fault.Fault.{Fault}
use Rattle.basis.specs.Transitions.{Transitions}
use Rattle.plan.specs.Payments.{Payments}
use Rattle.valuation.specs.Courses.{Writes, Refuses}
use Rattle.valuation.specs.Premiums.{Suffices, LeastPremium}
use Rattle.valuation.specs.Reserves.{reserve}
use Rattle.valuation.specs.Spans as spans
use Rattle.c_interface.specs.Columns.{Asked, FitColumns, basis_of, plan_of, Stops}
use Rattle.c_interface.specs.declared.columns.Columns.{Columns}

-- ---- what is written

-- the entry at a place, and the premium that it stands for
abbrev pub entry : List ℤ → ℕ → ℤ
entry column k = slice_index_or column k (pos 0)

abbrev pub premium_at : List ℤ → ℕ → ℕ
premium_at premiums k = unsigned_abs (entry premiums k)

-- each place below k has the value in state i and year t at the premium of that place
abbrev pub ValuesBelow : ℕ → (ℕ → ℕ → ℕ → ℤ) → ℕ → ℕ → List ℤ → List ℤ → Type 0
ValuesBelow below value i t premiums column =
    (k : ℕ) → k < below → entry column k ≡ value (premium_at premiums k) i t

module _ (c : Transitions) (p : Payments) (i t : ℕ) where
  abbrev pub ReservesAt : List ℤ → List ℤ → Type 0
  ReservesAt premiums reserves = ValuesBelow (length premiums) (reserve c p) i t premiums reserves

  -- the ends of the spans in two columns
  pub record SpansAt (premiums low high : List ℤ) : Type 0 where
    pub least : ValuesBelow (length premiums) (spans.least c p) i t premiums low
    pub greatest : ValuesBelow (length premiums) (spans.greatest c p) i t premiums high

  -- what is written for a bound: the least premium that suffices, or -1 where none does
  pub data PremiumFor (bound written : ℤ) : Type 0 where
    least_premium : (premium : ℕ) → written ≡ pos premium → LeastPremium c p i t bound premium
        → PremiumFor bound written
    no_premium : written ≡ negsuc 0
        → ((premium : ℕ) → premium ≤ limit → Suffices c p i t bound premium → ⊥)
        → PremiumFor bound written

  abbrev pub PremiumsBelow : ℕ → List ℤ → List ℤ → Type 0
  PremiumsBelow below bounds premiums =
      (k : ℕ) → k < below → PremiumFor (entry bounds k) (entry premiums k)

  abbrev pub PremiumsFor : List ℤ → List ℤ → Type 0
  PremiumsFor bounds premiums = PremiumsBelow (length bounds) bounds premiums

-- ---- what is answered

-- the number that a call answers which wants places and premiums to fit, makes tables of columns
-- where there is memory, and then does what it is for
module _ (asked : Asked) (c : Columns) (FitPlaces FitPremiums Unchanged : Type 0) where
  pub data Outcome (Done : ℕ → Type 0) (answer : ℕ) : Type 0 where
    unfit_places : answer ≡ 253 → (FitPlaces → ⊥) → Unchanged → Outcome Done answer
    unfit_premiums : answer ≡ 254 → FitPlaces → (FitPremiums → ⊥) → Unchanged → Outcome Done answer
    no_tables : FitPlaces → FitPremiums → Stops asked c answer → Unchanged → Outcome Done answer
    done : FitPlaces → FitPremiums → IsOk asked → FitColumns c → Done answer → Outcome Done answer

-- all that is asked for is written, on the basis and the plan of the columns
pub record Written (c : Columns) (What : Transitions → Payments → Type 0) (answer : ℕ)
    : Type 0 where
  pub told : answer ≡ 0
  pub what : What (basis_of c) (plan_of c)

-- the course is written, or refused where the column is too short for it
pub data CourseEnds (c : Columns) (premium : ℤ) (t : ℕ) (before after : List ℤ) (answer : ℕ)
    : Type 0 where
  course_written : answer ≡ 0
      → Writes (basis_of c) (plan_of c) (unsigned_abs premium) t before after
      → CourseEnds c premium t before after answer
  course_refused : (fault : Fault) → answer ≡ fault.number
      → Refuses (basis_of c) t before after fault → CourseEnds c premium t before after answer

-- a column has as many places as another
abbrev pub AsLong : List ℤ → List ℤ → Type 0
AsLong column other = length column ≡ length other

-- every entry is a premium
abbrev pub AllPremiums : List ℤ → Type 0
AllPremiums premiums = AllBetween (pos 0) (pos limit) premiums

-- what each call answers, by what asking for memory comes to
module _ (asked : Asked) (c : Columns) where
  abbrev pub Reserves : ℕ → ℕ → List ℤ → List ℤ → List ℤ → ℕ → Type 0
  Reserves i t premiums before after =
      Outcome asked c (AsLong before premiums) (AllPremiums premiums) (after ≡ before)
      (Written c (λ b p. AsLong after premiums × ReservesAt b p i t premiums after))

  abbrev pub Spans : ℕ → ℕ → List ℤ → List ℤ → List ℤ → List ℤ → List ℤ → ℕ → Type 0
  Spans i t premiums least greatest new_least new_greatest =
      Outcome asked c (AsLong least premiums × AsLong greatest premiums) (AllPremiums premiums)
      ((new_least ≡ least) × (new_greatest ≡ greatest))
      (Written c (λ b p. (AsLong new_least premiums × AsLong new_greatest premiums)
      × SpansAt b p i t premiums new_least new_greatest))

  abbrev pub Course : ℤ → ℕ → List ℤ → List ℤ → ℕ → Type 0
  Course premium t before after =
      Outcome asked c (Unit {0}) (WithinLimit premium) (after ≡ before)
      (CourseEnds c premium t before after)

  abbrev pub Premiums : ℕ → ℕ → List ℤ → List ℤ → List ℤ → ℕ → Type 0
  Premiums i t bounds before after =
      Outcome asked c (AsLong before bounds) (Unit {0}) (after ≡ before)
      (Written c (λ b p. AsLong after bounds × PremiumsFor b p i t bounds after))
