-- A fault in plain words. Assumes nothing.
use Rattle.std.specs.Prelude.{ℕ, List, ◌++◌, codes, decimal}
use Rattle.units.specs.declared.failure.Failure.{Failure}
use Rattle.units.specs.declared.failure.Failure.TheVariants.{Refused, NoMemory}
use Rattle.units.specs.declared.fault.Fault.{Fault}
use Rattle.units.specs.declared.fault.Layer.{Layer}
use Rattle.units.specs.declared.fault.Layer.TheVariants.{Field, Sheet, Basis, Plan, Contract}
use Rattle.units.specs.declared.fault.Place.{Place}
use Rattle.units.specs.declared.fault.Place.TheVariants.{Text, Entry}
use Rattle.units.specs.Rules.{rule_text}

abbrev pub layer_text : Layer → List ℕ
layer_text Field = codes "field"
layer_text Sheet = codes "sheet"
layer_text Basis = codes "basis"
layer_text Plan = codes "plan"
layer_text Contract = codes "contract"

abbrev pub place_text : Place → List ℕ
place_text (Text line offset) = codes "line " ++ (decimal line ++ (codes ", offset " ++ decimal offset))
place_text (Entry year state) = codes "year " ++ (decimal year ++ (codes ", state " ++ decimal state))

abbrev pub text_of_fault : Fault → List ℕ
text_of_fault fault =
    codes "refused with " ++ (decimal fault.number ++ (codes " by the " ++ (layer_text fault.layer ++ (codes " at " ++ (place_text fault.place ++ (codes ": " ++ rule_text fault.number))))))

abbrev pub failure_text : Failure → List ℕ
failure_text (Refused fault) = text_of_fault fault
failure_text NoMemory = codes "no memory"
