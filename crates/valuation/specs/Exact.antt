-- The exact value: the mean, over all the ways that a contract can go, of what is paid, discounted, with nothing rounded. Assumes nothing.
use Rattle.std.specs.Prelude.{ℕ, zero, suc, ◌+◌, ◌-◌, ◌*◌, ◌^◌, List, [], ◌∷◌, map, flat_map, get_or, ℤ, pos, ◌+ℤ◌, ◌*ℤ◌}
use Rattle.std.specs.List.{range_with_len}
use Rattle.units.specs.Near.{Near}
use Rattle.units.specs.Ranges.{million}
use Rattle.units.specs.Sums.{int_sum_by, product_by}
use Rattle.basis.specs.Transitions.{Transitions, moves}
use Rattle.plan.specs.Payments.{Payments}
use Rattle.valuation.specs.Figures.{flow}

-- how many parts of a tick the exact value is told in, with k years left: for each year a share and a factor, both in millionths
abbrev pub scale : ℕ → ℕ
scale k = 1000000000000 ^ k

-- the state after u moves on a path out of state i
abbrev pub state_at : ℕ → List ℕ → ℕ → ℕ
state_at i path u = get_or (i ∷ path) u 0

module _ (c : Transitions) where
  -- all paths of k moves; a path is the list of the states moved to
  abbrev pub paths : ℕ → List (List ℕ)
  paths zero = [] ∷ []
  paths (suc k) = flat_map (λ j. map (λ path. j ∷ path) (paths k)) (moves c)

  -- the part of state i in year t that takes a path of k moves: the product of the shares of its moves
  abbrev pub weight : ℕ → ℕ → ℕ → List ℕ → ℕ
  weight k i t path = product_by (λ u. c.share (state_at i path u) (state_at i path (suc u)) (t + u)) (range_with_len 0 k)

  -- the product of the factors of the u years from t on
  abbrev pub discount : ℕ → ℕ → ℕ
  discount t u = product_by c.factor (range_with_len t u)

  -- what an amount that is paid u years after t is worth in year t, in parts of a tick: for each of k years a factor or else a million
  abbrev pub worth : ℕ → ℕ → ℕ → ℤ → ℤ
  worth k t u amount = pos (discount t u * million ^ (k - u)) *ℤ amount

  module _ (p : Payments) where
    -- the flows of the k + 1 years of a path of k moves out of state i, each at the start of its year, as worth in year t
    abbrev pub flows : ℕ → ℕ → ℕ → ℕ → List ℕ → ℤ
    flows premium k i t path = int_sum_by (λ u. worth k t u (flow c p premium (state_at i path u) (t + u))) (range_with_len 0 (suc k))

    -- the benefits for its k moves, each at the end of its year
    abbrev pub move_benefits : ℕ → ℕ → ℕ → List ℕ → ℤ
    move_benefits k i t path = int_sum_by (λ u. worth k t (suc u) (pos (p.move_benefit (state_at i path u) (state_at i path (suc u)) (t + u)))) (range_with_len 0 k)

    -- all that is paid on the path
    abbrev pub payment : ℕ → ℕ → ℕ → ℕ → List ℕ → ℤ
    payment premium k i t path = flows premium k i t path +ℤ move_benefits k i t path

    -- the exact value in state i and year t, of which k years are left: the mean over the paths, by their weights
    abbrev pub exact_with : ℕ → ℕ → ℕ → ℕ → ℤ
    exact_with premium k i t = int_sum_by (λ path. pos (weight k i t path) *ℤ payment premium k i t path) (paths k)

    abbrev pub exact : ℕ → ℕ → ℕ → ℤ
    exact premium i t = exact_with premium (c.years - t) i t

    -- a value in state i and year t, of which k years are left, is within k ticks of the exact one
    abbrev pub NearExactWith : ℕ → ℕ → ℕ → ℕ → ℤ → Type 0
    NearExactWith premium k i t value = Near (k * scale k) (pos (scale k) *ℤ value) (exact_with premium k i t)

    -- a value in state i and year t is within a tick for each year left of the exact one
    abbrev pub NearExact : ℕ → ℕ → ℕ → ℤ → Type 0
    NearExact premium i t value = NearExactWith premium (c.years - t) i t value
