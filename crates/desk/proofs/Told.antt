-- Where the faults of a command stand. Assumes nothing.
use Rattle.std.proofs.Common.{◌≡◌, ℕ, ◌+◌, inl, inr, Bool, List, [], ◌∷◌, map, length, Some, refl}
use Rattle.std.specs.Str.Parse.{digits_value}
use Rattle.units.specs.Faults.{text_fault}
use Rattle.units.specs.declared.fault.Fault.{Fault}
use Rattle.units.specs.declared.fault.Layer.TheVariants.{Field, Sheet as Whole}
use Rattle.sheet.specs.Checks.{first_broken}
use Rattle.sheet.specs.Lines.{further, parts, letter_of}
use Rattle.sheet.specs.declared.spot.Spot.{Spot}
use Rattle.sheet.proofs.FaultPlaces.{EachFault, both, range_faults, first_fault}
use Rattle.desk.specs.CommandChecks.{Kind, form_checks, kind_checks, line_checks, kind}
use Rattle.desk.specs.Meanings.{TellsLine}

of_form : (spot : Spot) → TellsLine spot (text_fault 3 Whole spot.line spot.offset)
of_form spot = record { offset = spot.offset; is = refl; rule = inl (refl, refl) }

of_number : (spot : Spot) (offset : ℕ) → TellsLine spot (text_fault 4 Field spot.line offset)
of_number spot offset = record { offset = offset; is = refl; rule = inr (inl refl) }

of_range : (spot : Spot) (offset : ℕ) → TellsLine spot (text_fault 5 Field spot.line offset)
of_range spot offset = record { offset = offset; is = refl; rule = inr (inr refl) }

form_faults : (whole spot : Spot) (fs : List (List ℕ)) (forms : List (List ℕ → Bool)) → whole.line ≡ spot.line → EachFault (TellsLine whole) (form_checks spot fs forms)
unfolding EachFault
form_faults whole spot [] forms e = tt
form_faults whole spot (f ∷ fs) [] e = tt
form_faults whole spot (f ∷ fs) (form ∷ forms) e = (rw (← e) (of_number whole spot.offset), form_faults whole (further spot (length f + 1)) fs forms e)

kind_faults : (spot : Spot) (fs : List (List ℕ)) (k : Kind) → EachFault (TellsLine spot) (kind_checks spot fs k)
unfolding EachFault
kind_faults spot fs k = (
  of_form spot,
  both (TellsLine spot) (form_checks (further spot 2) fs k.forms) _ (form_faults spot (further spot 2) fs k.forms refl) (range_faults (TellsLine spot) (further spot 2) fs (k.ranges (map (digits_value 10) fs)) (of_range spot)),
)

line_faults : (years : ℕ) (spot : Spot) (ps : List (List ℕ)) → EachFault (TellsLine spot) (line_checks years spot ps)
unfolding EachFault
line_faults years spot [] = (of_form spot, tt)
line_faults years spot (head ∷ fs) = kind_faults spot fs (kind years (letter_of head))

pub command_told : (years : ℕ) (spot : Spot) (line : List ℕ) (fault : Fault) → first_broken (line_checks years spot (parts line)) ≡ Some fault → TellsLine spot fault
command_told years spot line fault broken = first_fault (TellsLine spot) (line_checks years spot (parts line)) fault (line_faults years spot (parts line)) broken
