-- How the code goes from fields to the command of a line. Assumes nothing.
use Rattle.std.specs.Prelude.{◌≡◌, ℕ, List, [], ◌∷◌, map, pos, Result, Ok, Err, Some, None}
use Rattle.units.specs.Ranges.{limit}
use Rattle.units.specs.declared.fault.Fault.{Fault}
use Rattle.units.specs.declared.fault.Layer.TheVariants.{Field}
use Rattle.plan.specs.Endowments.{Holds}
use Rattle.plan.specs.declared.endowment.Endowment.{Endowment}
use Rattle.sheet.specs.Checks.{Check, check, first_broken, in_range, range}
use Rattle.sheet.specs.Fields.{bytes_of}
use Rattle.sheet.specs.declared.part.Part.{Part}
use Rattle.sheet.specs.declared.spot.Spot.{Spot}
use Rattle.desk.specs.CommandChecks.{kind_checks, kind, term_range}
use Rattle.desk.specs.Commands.{Command, Allowed, AllowedPlan, letter, fields}
use Rattle.desk.specs.declared.command.Command as code
use Rattle.desk.specs.Meanings.{Means}

-- 5 for the fields of an endowment, at their spots: numbers in their ranges are an allowed
-- endowment
abbrev pub plan_checks : ℕ → Spot → Spot → Spot → ℕ → ℕ → ℕ → List Check
plan_checks years sum_spot term_spot paying_spot sum term paying_years =
    check 5 Field sum_spot (in_range (range 0 limit) sum) ∷ check 5 Field term_spot (in_range (term_range years) term) ∷ check 5 Field paying_spot (in_range (range 0 term) paying_years) ∷ []

abbrev pub Plans : ℕ → Spot → Spot → Spot → ℕ → ℕ → ℕ → Result Endowment Fault → Type 0
Plans years sum_spot term_spot paying_spot sum term paying_years (Ok plan) =
    (first_broken (plan_checks years sum_spot term_spot paying_spot sum term paying_years) ≡ None) × (AllowedPlan years sum term paying_years × Holds plan (pos sum) term paying_years)
Plans years sum_spot term_spot paying_spot sum term paying_years (Err fault) = first_broken (plan_checks years sum_spot term_spot paying_spot sum term paying_years) ≡ Some fault

-- a line of this letter with these fields is a command, or breaks a rule
pub record IsMade (years first : ℕ) (fs : List (List ℕ)) (command : code.Command) (c : Command) : Type 0 where
  pub meaning : Means command c
  pub allowed : Allowed years c
  pub same_letter : letter c ≡ first
  pub same_fields : fields c ≡ fs

abbrev pub Makes : ℕ → ℕ → Spot → List Part → Result code.Command Fault → Type 0
Makes years first spot fs (Ok command) = (first_broken (kind_checks spot (map bytes_of fs) (kind years first)) ≡ None) × ((c : Command) × IsMade years first (map bytes_of fs) command c)
Makes years first spot fs (Err fault) = first_broken (kind_checks spot (map bytes_of fs) (kind years first)) ≡ Some fault
