-- The page of an endowment's reserves on a basis. Assumes nothing.
use Rattle.std.specs.Prelude.{ℕ, ◌+◌, ◌-◌, List, ◌++◌, length, codes, decimal, flat_map, replicate, pos}
use Rattle.std.specs.List.{range_with_len}
use Rattle.units.specs.Francs.{francs}
use Rattle.basis.specs.Transitions.{Transitions}
use Rattle.plan.specs.Endowments.{endows}
use Rattle.plan.specs.Payments.{Payments}
use Rattle.valuation.specs.Reserves.{reserve}

-- the endowment of 1000 francs over all years of a basis, with the premium due in each
abbrev pub plan_over : Transitions → Payments
plan_over c = endows 10000000 c.years c.years

-- spaces and the text, which ends so many places on; the text alone where it is longer
abbrev pub at_right : ℕ → List ℕ → List ℕ
at_right width text = replicate (width - length text) 32 ++ text

-- the first line, and an empty one
abbrev pub opening : ℕ → ℕ → List ℕ
opening years premium =
    codes "Endowment of 1000 francs over " ++ (decimal years
    ++ (codes " years, yearly premium of " ++ (francs (pos premium) ++ codes " francs\n\n")))

-- a column for the year, and one for each state
abbrev pub state_heading : ℕ → List ℕ
state_heading state = at_right 11 (codes "state ") ++ decimal state

abbrev pub heading : ℕ → List ℕ
heading states = codes "year" ++ (flat_map state_heading (range_with_len 0 states) ++ codes "\n")

-- a year, and its reserve in each state in francs
abbrev pub entry : Transitions → Payments → ℕ → ℕ → ℕ → List ℕ
entry c p premium year state = at_right 12 (francs (reserve c p premium state year))

abbrev pub row : Transitions → Payments → ℕ → ℕ → List ℕ
row c p premium year =
    at_right 4 (decimal year)
    ++ (flat_map (entry c p premium year) (range_with_len 0 c.states) ++ codes "\n")

-- the years up to the end of the last one
abbrev pub rows : Transitions → Payments → ℕ → List ℕ
rows c p premium = flat_map (row c p premium) (range_with_len 0 (c.years + 1))

-- the page at a premium
abbrev pub page : Transitions → ℕ → List ℕ
page c premium = opening c.years premium ++ (heading c.states ++ rows c (plan_over c) premium)
