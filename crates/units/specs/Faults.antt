-- Faults as definitions write them. Assumes nothing.
use Rattle.std.specs.Prelude.{ℕ}
use Rattle.units.specs.declared.fault.Fault.{Fault}
use Rattle.units.specs.declared.fault.Layer.{Layer}
use Rattle.units.specs.declared.fault.Place.TheVariants.{Text, Entry}

-- a fault at a year and a state
abbrev pub entry_fault : ℕ → Layer → ℕ → ℕ → Fault
entry_fault number layer year state = record { number = number; layer = layer; place = Entry year state }

-- a fault at a byte of a line
abbrev pub text_fault : ℕ → Layer → ℕ → ℕ → Fault
text_fault number layer line offset = record { number = number; layer = layer; place = Text line offset }
