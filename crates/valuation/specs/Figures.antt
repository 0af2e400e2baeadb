-- The figure of each state and year, backwards from the last year of the basis. Assumes nothing.
use Rattle.std.specs.Prelude.{◌≡◌, ℕ, zero, suc, ◌+◌, ◌-◌, ◌≤◌, nat_lt, cond, ◌&&◌}
use Rattle.std.specs.Prelude.{List, map, flat_map, get_or, ℤ, pos, ◌-ℤ◌}
use Rattle.std.specs.List.{range_with_len}
use Rattle.units.specs.Ranges.{limit}
use Rattle.basis.specs.Transitions.{Transitions, Lawful, moves}
use Rattle.plan.specs.Payments.{Payments, InRange}
use Rattle.valuation.specs.Operations.{Operations}

-- what is paid in state i at the start of year t, less the premium where it is due and a year is left
abbrev pub flow : Transitions → Payments → ℕ → ℕ → ℕ → ℤ
flow c p premium i t = pos (p.benefit i t) -ℤ pos (cond (nat_lt t c.years && p.due i t) premium 0)

module _ {F : Type 0} (v : Operations F) (c : Transitions) (p : Payments) where
  -- E, the join of what follows the moves out of state i in year t, where `next j` is the figure of state j a year later
  abbrev pub joined : ℕ → ℕ → (ℕ → F) → F
  joined i t next = v.join i (map (λ j. c.share i j t) (moves c)) (map (λ j. v.add (next j) (pos (p.move_benefit i j t))) (moves c))

  -- the same from the figures of all states a year later, in a list
  abbrev pub joined_from : ℕ → ℕ → List F → F
  joined_from i t after = joined i t (λ j. get_or after j (v.make (pos 0)))

  -- W, that join discounted to the start of the year
  abbrev pub discounted : ℕ → ℕ → (ℕ → F) → F
  discounted i t next = v.discount (c.factor t) (joined i t next)

  -- the figure of state i in year t, where `next j` is the figure of state j a year later
  abbrev pub figure_before : ℕ → ℕ → ℕ → (ℕ → F) → F
  figure_before premium i t next = v.add (discounted i t next) (flow c p premium i t)

  -- the same from the figures of all states a year later, in a list, and that of each of the first n states
  abbrev pub figure_from : ℕ → ℕ → ℕ → List F → F
  figure_from premium i t after = figure_before premium i t (λ j. get_or after j (v.make (pos 0)))

  abbrev pub figures_from : ℕ → ℕ → List F → ℕ → List F
  figures_from premium t after n = map (λ i. figure_from premium i t after) (range_with_len 0 n)

  -- the figure of state i in year t, of which k years are left
  abbrev pub figure_with : ℕ → ℕ → ℕ → ℕ → F
  figure_with premium zero i t = v.make (flow c p premium i t)
  figure_with premium (suc k) i t = figure_before premium i t (λ j. figure_with premium k j (t + 1))

  abbrev pub figure : ℕ → ℕ → ℕ → F
  figure premium i t = figure_with premium (c.years - t) i t

  -- the figures of all states of the basis in year t
  abbrev pub figures_of : ℕ → ℕ → List F
  figures_of premium t = map (λ i. figure premium i t) (moves c)

  -- a row for each year from t to the last, one after another: the figures of all states in it
  abbrev pub rows_from : ℕ → ℕ → List F
  rows_from premium t = flat_map (figures_of premium) (range_with_len t (c.years + 1 - t))

-- a value is the figure of a valuation: on every lawful basis, of every plan in range, at every
-- premium in range, in every state and year
abbrev pub IsFigureOf : {F : Type 0} →
    Operations F → (Transitions → Payments → ℕ → ℕ → ℕ → F) → Type 0
IsFigureOf v value =
    (c : Transitions) → Lawful c → (p : Payments) → InRange p → (premium : ℕ) → premium ≤ limit →
    (i t : ℕ) → figure v c p premium i t ≡ value c p premium i t
