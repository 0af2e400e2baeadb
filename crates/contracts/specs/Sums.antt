-- Sums and differences in 64 bits: what these do not hold is the nearest that they do. Assumes
-- nothing.
use Rattle.std.specs.Prelude.{ℤ, ◌+ℤ◌, ◌-ℤ◌}
use Rattle.std.specs.Int.{saturate_to_bits}

abbrev pub plus : ℤ → ℤ → ℤ
plus a b = saturate_to_bits 63 (a +ℤ b)

abbrev pub minus : ℤ → ℤ → ℤ
minus a b = saturate_to_bits 63 (a -ℤ b)
