-- Numbers as fields write them. Assumes nothing.
use Rattle.std.specs.Prelude.{◌≡◌, ℕ, ◌^◌, ◌<◌, Bool, true, cond, ◌&&◌, List, length, ℤ, nat_abs, nat_lt, nat_le, ◌==◌, slice_index, decimal}
use Rattle.std.specs.Fmt.{signed_decimal}
use Rattle.std.specs.Str.{all_ascii_digits}

-- 1 to 11 digits without leading nought; nought itself is fine
unfoldable pub is_number : List ℕ → Bool
is_number bytes = (nat_lt 0 (length bytes) && nat_le (length bytes) 11) && (all_ascii_digits bytes && cond (slice_index bytes 0 == 48) (length bytes == 1) true)

-- the bytes are the decimal form of n, which has at most 11 digits
pub record Writes (bytes : List ℕ) (n : ℕ) : Type 0 where
  pub text : bytes ≡ decimal n
  pub most : n < 10 ^ 11

-- the same with a minus in front where z is below nought
pub record WritesSigned (bytes : List ℕ) (z : ℤ) : Type 0 where
  pub text : bytes ≡ signed_decimal z
  pub most : nat_abs z < 10 ^ 11
