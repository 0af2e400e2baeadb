-- The span: the least and the most that a contract can come to from now on, discounted, in whole ticks. Assumes nothing.
use Rattle.std.specs.Prelude.{ℕ, zero, suc, ◌+◌, ◌-◌, List, map, ℤ, pos, ◌+ℤ◌, ◌*ℤ◌, ◌≤ℤ◌, nat_lt}
use Rattle.std.specs.List.{filter}
use Rattle.basis.specs.Transitions.{Transitions, moves}
use Rattle.plan.specs.Payments.{Payments}
use Rattle.valuation.specs.declared.span.ends.Ends.{Ends}
use Rattle.valuation.specs.Extremes.{smallest, largest}
use Rattle.valuation.specs.Figures.{flow}
use Rattle.valuation.specs.Means.{rounded_discount}
use Rattle.valuation.specs.Reserves.{reserve}

-- the moves out of state i in year t that have a share
abbrev pub possible_moves : Transitions → ℕ → ℕ → List ℕ
possible_moves c i t = filter (λ j. nat_lt 0 (c.share i j t)) (moves c)

module _ (c : Transitions) (p : Payments) where
  -- what follows these moves, where `next j` is the end in state j a year later
  abbrev pub follows : ℕ → ℕ → (ℕ → ℤ) → List ℤ
  follows i t next = map (λ j. pos (p.move_benefit i j t) +ℤ next j) (possible_moves c i t)

  -- one end of the span in state i and year t, of which k years are left: `pick` takes the smallest or the largest of what follows
  abbrev pub end_with : (List ℤ → ℤ) → ℕ → ℕ → ℕ → ℕ → ℤ
  end_with pick premium zero i t = flow c p premium i t
  end_with pick premium (suc k) i t = flow c p premium i t +ℤ rounded_discount (pos (c.factor t) *ℤ pick (follows i t (λ j. end_with pick premium k j (t + 1))))

  abbrev pub least : ℕ → ℕ → ℕ → ℤ
  least premium i t = end_with smallest premium (c.years - t) i t

  abbrev pub greatest : ℕ → ℕ → ℕ → ℤ
  greatest premium i t = end_with largest premium (c.years - t) i t

-- both ends
abbrev pub ends : Transitions → Payments → ℕ → ℕ → ℕ → Ends
ends c p premium i t = record { least = least c p premium i t; greatest = greatest c p premium i t }

-- the reserve lies within the span
pub record Encloses (c : Transitions) (p : Payments) (premium i t : ℕ) (span : Ends) : Type 0 where
  pub from_below : span.least ≤ℤ reserve c p premium i t
  pub from_above : reserve c p premium i t ≤ℤ span.greatest
