-- The checks of a line, one by one. Assumes nothing.
use Rattle.std.proofs.Common.{◌≡◌, ℕ, false, true, Ok, Some, ap, sym, ◌∙◌, arith}
use Rattle.std.proofs.lemmas.Bool.Decides.{nat_tests}
use Rattle.std.specs.Str.Parse.{digits_value}
use Rattle.units.specs.Faults.{text_fault}
use Rattle.units.specs.declared.fault.Fault.{Fault}
use Rattle.units.specs.declared.fault.Layer.TheVariants.{Field}
use Rattle.sheet.specs.Checks.{range, in_range}
use Rattle.sheet.specs.Fields.{bytes_of}
use Rattle.sheet.specs.Outcomes.{IsNumberByRule, IsWithin}
use Rattle.sheet.specs.declared.part.Part.{Part}
use Rattle.sheet.specs.declared.spot.Spot.{Spot}

-- the number of a field is in its range, or it is not
pub is_in : (field : Part) (low high n k : ℕ) → IsNumberByRule field (Ok n) → IsWithin field n low high (Ok k) → in_range (range low high) (digits_value 10 (bytes_of field)) ≡ true
is_in field low high n k read within = grind (arith, nat_tests)

pub is_out : (field : Part) (low high n : ℕ) → IsNumberByRule field (Ok n) → in_range (range low high) n ≡ false → in_range (range low high) (digits_value 10 (bytes_of field)) ≡ false
is_out field low high n read out = ap (in_range (range low high)) (sym read.1) ∙ out

-- the number that is kept of it
pub kept_number : (field : Part) (low high n k : ℕ) → IsNumberByRule field (Ok n) → IsWithin field n low high (Ok k) → k ≡ digits_value 10 (bytes_of field)
kept_number field low high n k read within = within.0 ∙ read.1

-- what is told of a field is told at its spot
pub told_at : (number : ℕ) (field : Part) (spot : Spot) (fault : Fault) → field.spot ≡ spot → fault ≡ text_fault number Field field.spot.line field.spot.offset → Some (text_fault number Field spot.line spot.offset) ≡ Some fault
told_at number field spot fault at told = ap (λ s. Some (text_fault number Field s.line s.offset)) (sym at) ∙ ap Some (sym told)
