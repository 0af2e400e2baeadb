-- What is made of one call of a stream. Assumes nothing.
use Rattle.std.specs.Prelude.{◌≡◌, ◌⊎◌, ℕ, ◌==◌, cond, Option, None, Some, Result, Ok, Err}
use Rattle.std.specs.IoError.{error_kind}
use Rattle.std.specs.declared.io.Error.{Error}
use Rattle.std.specs.declared.io.ErrorKind.{ErrorKind}

-- a call that moved nothing was the last; one that was interrupted moved nothing, and is no last
-- one; any other error is handed on
abbrev pub IsStep : Result ℕ Error → Result (Option ℕ) Error → Type 0
IsStep (Ok n) step = step ≡ Ok (cond (n == 0) None (Some n))
IsStep (Err e) step =
    ((error_kind e ≡ ErrorKind.Interrupted) × (step ≡ Ok (Some 0)))
    ⊎ ((error_kind e ≡ ErrorKind.Interrupted → ⊥) × (step ≡ Err e))
