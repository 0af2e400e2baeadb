-- The largest basis, in which everybody stays and nothing is discounted. Assumes nothing.
use Rattle.std.specs.Prelude.{cond, ◌&&◌, ◌==◌, nat_lt}
use Rattle.units.specs.Ranges.{million}
use Rattle.basis.specs.Transitions.{Transitions}

-- eight states and 120 years
abbrev pub staying : Transitions
staying = record {
  states = 8;
  years = 120;
  factor = λ t. million;
  share = λ i j t. cond (nat_lt t 120 && (nat_lt i 8 && i == j)) million 0;
}
