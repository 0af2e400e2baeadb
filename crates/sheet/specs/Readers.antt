-- What a reader holds, and how it takes a line. Assumes nothing.
use Rattle.std.specs.Prelude.{◌≡◌, true, false, List, map, take, Result, Ok, Err, Some, None}
use Rattle.std.specs.Str.Parse.{digits_value}
use Rattle.units.specs.Faults.{text_fault}
use Rattle.units.specs.declared.fault.Fault.{Fault}
use Rattle.units.specs.declared.fault.Layer.TheVariants.{Sheet as Whole}
use Rattle.sheet.specs.Checks.{Kind, first_broken, kind_checks, full_rows}
use Rattle.sheet.specs.Fields.{bytes_of}
use Rattle.sheet.specs.Sheets.{Sheet}
use Rattle.sheet.specs.declared.part.Part.{Part}
use Rattle.sheet.specs.declared.reader.Reader.{Reader}
use Rattle.sheet.specs.declared.spot.Spot.{Spot}

abbrev pub held : Reader → Sheet
held r = record {
  states = r.states;
  years = r.years;
  factors = take r.come r.factors;
  shares = take r.next r.shares;
}

-- every row of the last year is full; or one is not, and 8 is told of the line
abbrev pub KeepsRows : Sheet → Spot → Result Unit Fault → Type 0
KeepsRows s spot (Ok _) = full_rows s ≡ true
KeepsRows s spot (Err fault) =
    (full_rows s ≡ false) × (fault ≡ text_fault 8 Whole spot.line spot.offset)

-- a line of a kind with these fields is taken if it breaks no rule, and else its first breach is
-- told
abbrev pub Takes : Kind → Spot → List Part → Sheet → Result Unit Fault → Type 0
Takes kind spot fields after (Ok _) =
    (first_broken (kind_checks spot (map bytes_of fields) kind) ≡ None)
    × (after ≡ kind.makes (map (digits_value 10) (map bytes_of fields)))
Takes kind spot fields after (Err fault) =
    first_broken (kind_checks spot (map bytes_of fields) kind) ≡ Some fault
