-- What the code makes of a line. Assumes nothing.
use Rattle.std.specs.Prelude.{◌≡◌, ◌⊎◌, ℕ, List, ℤ, pos, Result, Ok, Err, Some, None}
use Rattle.units.specs.Faults.{text_fault}
use Rattle.units.specs.declared.fault.Fault.{Fault}
use Rattle.plan.specs.declared.endowment.Endowment.{Endowment}
use Rattle.sheet.specs.Checks.{first_broken}
use Rattle.sheet.specs.Fields.{bytes_of}
use Rattle.sheet.specs.Lines.{parts}
use Rattle.sheet.specs.declared.part.Part.{Part}
use Rattle.sheet.specs.declared.spot.Spot.{Spot}
use Rattle.desk.specs.CommandChecks.{line_checks}
use Rattle.desk.specs.Commands.{Command, Allowed, command_text, issue, close, alter, leave}
use Rattle.desk.specs.declared.command.Command as code
use Rattle.desk.specs.declared.command.Command.TheVariants as code_of

-- the code's command is this one
pub data Means : code.Command → Command → Type 0 where
  issues : (plan : Endowment) (deposit : ℕ) → Means (code_of.Issue plan (pos deposit)) (issue plan.sum.ticks plan.term plan.paying_years deposit)
  closes : (state : ℕ) (rate : ℤ) → Means (code_of.Close state rate) (close state rate)
  alters : (plan : Endowment) → Means (code_of.Alter plan) (alter plan.sum.ticks plan.term plan.paying_years)
  leaves : Means code_of.Leave leave

-- a fault of a line is told in that line, and at its first byte if it is not of a field
pub record TellsLine (spot : Spot) (fault : Fault) : Type 0 where
  pub offset : ℕ
  pub is : fault ≡ text_fault fault.number fault.layer spot.line offset
  pub rule :
      ((fault.number ≡ 3) × (offset ≡ spot.offset))
      ⊎ ((fault.number ≡ 4) ⊎ (fault.number ≡ 5))

-- the code's command is this one, its numbers are in their ranges, and the line is its text
pub record IsSaid (years : ℕ) (line : List ℕ) (command : code.Command) (c : Command) : Type 0 where
  pub meaning : Means command c
  pub allowed : Allowed years c
  pub text : line ≡ command_text c

-- what is made of a line: it breaks no rule and is the text of an allowed command; or the fault is
-- that of the first rule that it breaks
abbrev pub Says : ℕ → Part → Result code.Command Fault → Type 0
Says years line (Ok command) =
    (first_broken (line_checks years line.spot (parts (bytes_of line))) ≡ None)
    × ((c : Command) × IsSaid years (bytes_of line) command c)
Says years line (Err fault) =
    first_broken (line_checks years line.spot (parts (bytes_of line))) ≡ Some fault
