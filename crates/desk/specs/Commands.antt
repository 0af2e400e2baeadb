-- Commands, their text, and which are allowed. Assumes nothing.
use Rattle.std.specs.Prelude.{◌≡◌, ℕ, ◌^◌, ◌<◌, ◌≤◌, ⊤, Bool, true, false, List, [], ◌∷◌, ℤ, nat_abs, decimal}
use Rattle.std.specs.Fmt.{signed_decimal}
use Rattle.std.specs.List.{join_with_byte}
use Rattle.units.specs.Ranges.{limit}

-- to issue an endowment on a deposit, to close a year in a state at a rate, to alter to another
-- endowment, and to leave
pub data Command : Type 0 where
  issue : (sum term paying_years deposit : ℕ) → Command
  close : (state : ℕ) (rate : ℤ) → Command
  alter : (sum term paying_years : ℕ) → Command
  leave : Command

-- Q, C, A or L
abbrev pub letter : Command → ℕ
letter (issue sum term paying_years deposit) = 81
letter (close state rate) = 67
letter (alter sum term paying_years) = 65
letter leave = 76

-- each number in its shortest decimal form, with a minus where it is below nought
abbrev pub fields : Command → List (List ℕ)
fields (issue sum term paying_years deposit) = decimal sum ∷ decimal term ∷ decimal paying_years ∷ decimal deposit ∷ []
fields (close state rate) = decimal state ∷ signed_decimal rate ∷ []
fields (alter sum term paying_years) = decimal sum ∷ decimal term ∷ decimal paying_years ∷ []
fields leave = []

-- the line without its line feed: the letter and the fields, with a semicolon between each two
abbrev pub command_text : Command → List ℕ
command_text c = join_with_byte 59 ((letter c ∷ []) ∷ fields c)

-- an endowment that ends within the years of the basis
pub record AllowedPlan (years sum term paying_years : ℕ) : Type 0 where
  pub amount : sum ≤ limit
  pub some : 1 ≤ term
  pub within : term ≤ years
  pub few : term ≤ 120
  pub paying : paying_years ≤ term

-- its numbers are in their ranges; a rate has none here but that it has at most 11 digits
abbrev pub Allowed : ℕ → Command → Type 0
Allowed years (issue sum term paying_years deposit) = AllowedPlan years sum term paying_years × (deposit ≤ limit)
Allowed years (close state rate) = (state ≤ 7) × (nat_abs rate < 10 ^ 11)
Allowed years (alter sum term paying_years) = AllowedPlan years sum term paying_years
Allowed years leave = ⊤

-- a contract is issued where none stands; all else is done to the one that stands
abbrev pub needs_contract : Command → Bool
needs_contract (issue sum term paying_years deposit) = false
needs_contract (close state rate) = true
needs_contract (alter sum term paying_years) = true
needs_contract leave = true

-- the line is the text of an allowed command
pub record IsCommandText (years : ℕ) (line : List ℕ) (c : Command) : Type 0 where
  pub text : line ≡ command_text c
  pub allowed : Allowed years c

-- the line is an allowed command, and finds a contract or none as it needs
pub record IsCommandLine (years : ℕ) (stands : Bool) (line : List ℕ) (c : Command) : Type 0 where
  pub text : line ≡ command_text c
  pub allowed : Allowed years c
  pub standing : needs_contract c ≡ stands
