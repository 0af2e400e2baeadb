use Rattle.std.proofs.Common.{◌≡◌, ◌++◌, codes, flat_map}
use Rattle.std.specs.List.{range_with_len}
use Rattle.std.specs.String.{string_bytes}
use Rattle.sheet_reserves.specs.Pages.{state_heading}
use Rattle.sheet_reserves.proofs.page.write_heading.Given as goal

abbrev pub invariant-loop-state : goal.invariant-loop-state
invariant-loop-state l = string_bytes l.out ≡ (string_bytes l.fn.out ++ codes "year") ++ flat_map state_heading (range_with_len 0 l.state)
