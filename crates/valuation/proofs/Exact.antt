-- The exact value of a year from those of the next. Assumes nothing.
use Rattle.std.proofs.Common.{◌≡◌, ℕ, zero, suc, ◌+◌, ◌-◌, ◌*◌, ◌^◌, ◌<◌, ◌≤◌, List, ◌∷◌, map, ℤ, pos, ◌+ℤ◌, ◌*ℤ◌, refl, sym, ap, ap₂, ◌∙◌, add-zero, mul_assoc, one-mul, arith}
use Rattle.std.proofs.Math.Nat.{pow-succ', mul-mul-mul_comm, sub-zero, suc-sub-suc}
use borrow.Author.Differences.{ints}
use Rattle.std.specs.List.{range_with_len}
use Rattle.units.specs.Ranges.{million}
use Rattle.units.specs.Sums.{int_sum_by, product_by}
use Rattle.units.proofs.Sums.{int_sum_by_same, int_sum_by_counting_same, int_sum_by_map, int_sum_by_flat_map, int_sum_by_add, int_sum_by_times, int_sum_by_weights, int_sum_by_shift, product_by_shift}
use Rattle.units.proofs.Whole.{times_add, times_times, times_swap}
use Rattle.basis.specs.Transitions.{Transitions, Lawful, moves}
use Rattle.plan.specs.Payments.{Payments}
use Rattle.valuation.specs.Exact.{scale, state_at, paths, weight, discount, worth, flows, move_benefits, payment, exact_with}
use Rattle.valuation.specs.Figures.{flow}

-- for k years, parts of the shares times parts of the factors
squares : (k : ℕ) → million ^ k * million ^ k ≡ scale k
squares zero = refl
squares (suc k) = rw (pow-succ' million k, pow-succ' 1000000000000 k, mul-mul-mul_comm million (million ^ k) million (million ^ k), squares k)

-- u years after next year
later : (t u : ℕ) → t + suc u ≡ t + 1 + u
later t u = omega arith

module _ (c : Transitions) where
  -- ---- a path with one move more before it

  weight_earlier : (k i j t : ℕ) (path : List ℕ) → weight c (suc k) i t (j ∷ path) ≡ c.share i j t * weight c k j (t + 1) path
  weight_earlier k i j t path =
      ap₂ ◌*◌ (ap (c.share i j) (add-zero t))
      (product_by_shift (λ u. c.share (state_at i (j ∷ path) u) (state_at i (j ∷ path) (suc u)) (t + u)) 0 k
      ∙ ap (λ f. product_by f (range_with_len 0 k)) (λ z u. c.share (state_at j path u) (state_at j path (suc u)) (later t u z)))

  paths_earlier : (f : List ℕ → ℤ) (k : ℕ) → int_sum_by f (paths c (suc k)) ≡ int_sum_by (λ j. int_sum_by (λ path. f (j ∷ path)) (paths c k)) (moves c)
  paths_earlier f k =
      int_sum_by_flat_map f (λ j. map (λ path. j ∷ path) (paths c k)) (moves c)
      ∙ int_sum_by_same (λ j. int_sum_by f (map (λ path. j ∷ path) (paths c k))) (λ j. int_sum_by (λ path. f (j ∷ path)) (paths c k)) (moves c) (λ j. int_sum_by_map f (λ path. j ∷ path) (paths c k))

  worth_now : (k t : ℕ) (a : ℤ) → worth c k t 0 a ≡ pos (million ^ k) *ℤ a
  worth_now k t a = rw (sub-zero k, one-mul (million ^ k))

  worth_earlier : (k t u : ℕ) (a : ℤ) → worth c (suc k) t (suc u) a ≡ pos (c.factor t) *ℤ worth c k (t + 1) u a
  worth_earlier k t u a =
      ap (λ (n : ℕ). pos (discount c t (suc u) * million ^ n) *ℤ a) (suc-sub-suc k u)
      ∙ ap (λ (n : ℕ). pos n *ℤ a) (mul_assoc (c.factor t) (discount c (t + 1) u) (million ^ (k - u)))
      ∙ sym (times_times (c.factor t) (discount c (t + 1) u * million ^ (k - u)) a)

  worths_earlier : (k t n : ℕ) (f : ℕ → ℤ) → int_sum_by (λ u. worth c (suc k) t (suc u) (f u)) (range_with_len 0 n) ≡ pos (c.factor t) *ℤ int_sum_by (λ u. worth c k (t + 1) u (f u)) (range_with_len 0 n)
  worths_earlier k t n f =
      int_sum_by_same (λ u. worth c (suc k) t (suc u) (f u)) (λ u. pos (c.factor t) *ℤ worth c k (t + 1) u (f u)) (range_with_len 0 n) (λ u. worth_earlier k t u (f u))
      ∙ int_sum_by_times (c.factor t) (λ u. worth c k (t + 1) u (f u)) (range_with_len 0 n)

  module _ (p : Payments) (premium : ℕ) where
    flows_earlier : (k i j t : ℕ) (path : List ℕ) → flows c p premium (suc k) i t (j ∷ path) ≡ pos (million ^ suc k) *ℤ flow c p premium i t +ℤ pos (c.factor t) *ℤ flows c p premium k j (t + 1) path
    flows_earlier k i j t path =
        let first = worth_now (suc k) t (flow c p premium i (t + 0)) ∙ ap (λ u. pos (million ^ suc k) *ℤ flow c p premium i u) (add-zero t) in
        let rest =
        int_sum_by_shift (λ u. worth c (suc k) t u (flow c p premium (state_at i (j ∷ path) u) (t + u))) 0 (suc k)
        ∙ worths_earlier k t (suc k) (λ u. flow c p premium (state_at j path u) (t + suc u))
        ∙ ap (λ (f : ℕ → ℤ). pos (c.factor t) *ℤ int_sum_by (λ u. worth c k (t + 1) u (f u)) (range_with_len 0 (suc k))) (λ z u. flow c p premium (state_at j path u) (later t u z)) in
        ap₂ ◌+ℤ◌ first rest

    move_benefits_earlier : (k i j t : ℕ) (path : List ℕ) → move_benefits c p (suc k) i t (j ∷ path) ≡ pos (c.factor t) *ℤ (pos (million ^ k) *ℤ pos (p.move_benefit i j t) +ℤ move_benefits c p k j (t + 1) path)
    move_benefits_earlier k i j t path =
        let benefit : ℕ → ℤ = λ u. pos (p.move_benefit (state_at i (j ∷ path) u) (state_at i (j ∷ path) (suc u)) (t + u)) in
        let first = worth_now k (t + 1) (benefit 0) ∙ ap (λ u. pos (million ^ k) *ℤ pos (p.move_benefit i j u)) (add-zero t) in
        let rest =
        int_sum_by_shift (λ u. worth c k (t + 1) u (benefit u)) 0 k
        ∙ ap (λ (f : ℕ → ℤ). int_sum_by (λ u. worth c k (t + 1) (suc u) (f u)) (range_with_len 0 k)) (λ z u. pos (p.move_benefit (state_at j path u) (state_at j path (suc u)) (later t u z))) in
        worths_earlier k t (suc k) benefit ∙ ap (λ z. pos (c.factor t) *ℤ z) (ap₂ ◌+ℤ◌ first rest)

    payment_earlier : (k i j t : ℕ) (path : List ℕ) → payment c p premium (suc k) i t (j ∷ path) ≡ (pos (million ^ suc k) *ℤ flow c p premium i t +ℤ pos (c.factor t) *ℤ (pos (million ^ k) *ℤ pos (p.move_benefit i j t))) +ℤ pos (c.factor t) *ℤ payment c p premium k j (t + 1) path
    payment_earlier k i j t path =
        ap₂ ◌+ℤ◌ (flows_earlier k i j t path) (move_benefits_earlier k i j t path)
        ∙ sorted (c.factor t) (pos (million ^ suc k) *ℤ flow c p premium i t) (flows c p premium k j (t + 1) path) (pos (million ^ k) *ℤ pos (p.move_benefit i j t)) (move_benefits c p k j (t + 1) path)
      where
        sorted : (v : ℕ) (a x b y : ℤ) → (a +ℤ pos v *ℤ x) +ℤ pos v *ℤ (b +ℤ y) ≡ (a +ℤ pos v *ℤ b) +ℤ pos v *ℤ (x +ℤ y)
        sorted v a x b y = omega (arith, ints, times_add v b y, times_add v x y)

-- ---- the weights and factors out of a sum

split : (s w v : ℕ) (a b : ℤ) → pos (s * w) *ℤ (a +ℤ pos v *ℤ b) ≡ pos s *ℤ (pos w *ℤ a +ℤ pos v *ℤ (pos w *ℤ b))
split s w v a b = sym (times_times s w (a +ℤ pos v *ℤ b)) ∙ ap (λ z. pos s *ℤ z) (times_add w a (pos v *ℤ b) ∙ ap (λ z. pos w *ℤ a +ℤ z) (times_swap w v b))

gathered : (s m v : ℕ) (a b x : ℤ) → pos s *ℤ (pos m *ℤ (a +ℤ pos v *ℤ (pos m *ℤ b)) +ℤ pos v *ℤ x) ≡ pos s *ℤ (pos m *ℤ a) +ℤ pos v *ℤ (pos s *ℤ (pos (m * m) *ℤ b +ℤ x))
gathered s m v a b x =
    let inner : pos m *ℤ (a +ℤ pos v *ℤ (pos m *ℤ b)) ≡ pos m *ℤ a +ℤ pos v *ℤ (pos (m * m) *ℤ b) = times_add m a (pos v *ℤ (pos m *ℤ b)) ∙ ap (λ z. pos m *ℤ a +ℤ z) (times_swap m v (pos m *ℤ b) ∙ ap (λ z. pos v *ℤ z) (times_times m m b)) in
    let outer : pos m *ℤ (a +ℤ pos v *ℤ (pos m *ℤ b)) +ℤ pos v *ℤ x ≡ pos m *ℤ a +ℤ pos v *ℤ (pos (m * m) *ℤ b +ℤ x) = omega (arith, ints, inner, times_add v (pos (m * m) *ℤ b) x) in
    ap (λ z. pos s *ℤ z) outer ∙ times_add s (pos m *ℤ a) (pos v *ℤ (pos (m * m) *ℤ b +ℤ x)) ∙ ap (λ z. pos s *ℤ (pos m *ℤ a) +ℤ z) (times_swap s v (pos (m * m) *ℤ b +ℤ x))

module _ (c : Transitions) (law : Lawful c) where
  -- the paths of k moves together are the whole
  whole_weight : (k i t : ℕ) (z : ℤ) → i < c.states → t + k ≤ c.years → int_sum_by (λ path. pos (weight c k i t path) *ℤ z) (paths c k) ≡ pos (million ^ k) *ℤ z
  whole_weight zero i t z inside early = omega (arith, ints)
  whole_weight (suc k) i t z inside early =
      let share : ℕ → ℕ = λ j. c.share i j t in
      let rest : ℤ = pos (million ^ k) *ℤ z in
      let first_move : (j : ℕ) → j < c.states → int_sum_by (λ path. pos (weight c (suc k) i t (j ∷ path)) *ℤ z) (paths c k) ≡ pos (share j) *ℤ rest = λ j below.
      int_sum_by_same (λ path. pos (weight c (suc k) i t (j ∷ path)) *ℤ z) (λ path. pos (share j) *ℤ (pos (weight c k j (t + 1) path) *ℤ z)) (paths c k) (λ path. ap (λ (n : ℕ). pos n *ℤ z) (weight_earlier c k i j t path) ∙ sym (times_times (share j) (weight c k j (t + 1) path) z))
      ∙ int_sum_by_times (share j) (λ path. pos (weight c k j (t + 1) path) *ℤ z) (paths c k)
      ∙ ap (λ y. pos (share j) *ℤ y) (whole_weight k j (t + 1) z below (omega arith)) in
      paths_earlier c (λ path. pos (weight c (suc k) i t path) *ℤ z) k
      ∙ int_sum_by_counting_same (λ j. int_sum_by (λ path. pos (weight c (suc k) i t (j ∷ path)) *ℤ z) (paths c k)) (λ j. pos (share j) *ℤ rest) 0 c.states (λ j below. first_move j (omega (arith, below)))
      ∙ int_sum_by_weights share rest (moves c)
      ∙ ap (λ (n : ℕ). pos n *ℤ rest) (law.row i t inside (omega arith))
      ∙ times_times million (million ^ k) z
      ∙ ap (λ (n : ℕ). pos n *ℤ z) (sym (pow-succ' million k))

  module _ (p : Payments) (premium : ℕ) where
    -- what follows a move from i to j, exactly
    abbrev next : ℕ → ℕ → ℕ → ℕ → ℤ
    next k i t j = pos (scale k) *ℤ pos (p.move_benefit i j t) +ℤ exact_with c p premium k j (t + 1)

    -- what the paths bring that begin with a move to j
    one_move : (k i j t : ℕ) → j < c.states → t + suc k ≤ c.years → int_sum_by (λ path. pos (weight c (suc k) i t (j ∷ path)) *ℤ payment c p premium (suc k) i t (j ∷ path)) (paths c k) ≡ pos (c.share i j t) *ℤ (pos (million ^ k) *ℤ (pos (million ^ suc k) *ℤ flow c p premium i t)) +ℤ pos (c.factor t) *ℤ (pos (c.share i j t) *ℤ next k i t j)
    one_move k i j t below early =
        let share : ℕ = c.share i j t in
        let factor : ℕ = c.factor t in
        let weight_of : List ℕ → ℕ = λ path. weight c k j (t + 1) path in
        let pays : List ℕ → ℤ = λ path. payment c p premium k j (t + 1) path in
        let start : ℤ = pos (million ^ suc k) *ℤ flow c p premium i t in
        let benefit : ℤ = pos (p.move_benefit i j t) in
        let first : ℤ = start +ℤ pos factor *ℤ (pos (million ^ k) *ℤ benefit) in
        let one : (path : List ℕ) → pos (weight c (suc k) i t (j ∷ path)) *ℤ payment c p premium (suc k) i t (j ∷ path) ≡ pos share *ℤ (pos (weight_of path) *ℤ first +ℤ pos factor *ℤ (pos (weight_of path) *ℤ pays path)) = λ path.
        ap₂ (λ (n : ℕ) (z : ℤ). pos n *ℤ z) (weight_earlier c k i j t path) (payment_earlier c p premium k i j t path) ∙ split share (weight_of path) factor first (pays path) in
        let all : int_sum_by (λ path. pos (weight_of path) *ℤ first +ℤ pos factor *ℤ (pos (weight_of path) *ℤ pays path)) (paths c k) ≡ pos (million ^ k) *ℤ first +ℤ pos factor *ℤ exact_with c p premium k j (t + 1) =
        int_sum_by_add (λ path. pos (weight_of path) *ℤ first) (λ path. pos factor *ℤ (pos (weight_of path) *ℤ pays path)) (paths c k)
        ∙ ap₂ ◌+ℤ◌ (whole_weight k j (t + 1) first below (omega arith)) (int_sum_by_times factor (λ path. pos (weight_of path) *ℤ pays path) (paths c k)) in
        int_sum_by_same (λ path. pos (weight c (suc k) i t (j ∷ path)) *ℤ payment c p premium (suc k) i t (j ∷ path)) (λ path. pos share *ℤ (pos (weight_of path) *ℤ first +ℤ pos factor *ℤ (pos (weight_of path) *ℤ pays path))) (paths c k) one
        ∙ int_sum_by_times share (λ path. pos (weight_of path) *ℤ first +ℤ pos factor *ℤ (pos (weight_of path) *ℤ pays path)) (paths c k)
        ∙ ap (λ z. pos share *ℤ z) all
        ∙ gathered share (million ^ k) factor start benefit (exact_with c p premium k j (t + 1))
        ∙ ap (λ (n : ℕ). pos share *ℤ (pos (million ^ k) *ℤ start) +ℤ pos factor *ℤ (pos share *ℤ (pos n *ℤ benefit +ℤ exact_with c p premium k j (t + 1)))) (squares k)

    pub exact_earlier : (k i t : ℕ) → i < c.states → t + suc k ≤ c.years → exact_with c p premium (suc k) i t ≡ pos (scale (suc k)) *ℤ flow c p premium i t +ℤ pos (c.factor t) *ℤ int_sum_by (λ j. pos (c.share i j t) *ℤ (pos (scale k) *ℤ pos (p.move_benefit i j t) +ℤ exact_with c p premium k j (t + 1))) (moves c)
    exact_earlier k i t inside early =
        let share : ℕ → ℕ = λ j. c.share i j t in
        let factor : ℕ = c.factor t in
        let paid : ℤ = flow c p premium i t in
        let start : ℤ = pos (million ^ k) *ℤ (pos (million ^ suc k) *ℤ paid) in
        let whole : pos million *ℤ start ≡ pos (scale (suc k)) *ℤ paid =
        times_times million (million ^ k) (pos (million ^ suc k) *ℤ paid)
        ∙ times_times (million * million ^ k) (million ^ suc k) paid
        ∙ ap (λ (n : ℕ). pos (n * million ^ suc k) *ℤ paid) (sym (pow-succ' million k))
        ∙ ap (λ (n : ℕ). pos n *ℤ paid) (squares (suc k)) in
        paths_earlier c (λ path. pos (weight c (suc k) i t path) *ℤ payment c p premium (suc k) i t path) k
        ∙ int_sum_by_counting_same (λ j. int_sum_by (λ path. pos (weight c (suc k) i t (j ∷ path)) *ℤ payment c p premium (suc k) i t (j ∷ path)) (paths c k)) (λ j. pos (share j) *ℤ start +ℤ pos factor *ℤ (pos (share j) *ℤ next k i t j)) 0 c.states (λ j below. one_move k i j t (omega (arith, below)) early)
        ∙ int_sum_by_add (λ j. pos (share j) *ℤ start) (λ j. pos factor *ℤ (pos (share j) *ℤ next k i t j)) (moves c)
        ∙ ap₂ ◌+ℤ◌
        (int_sum_by_weights share start (moves c) ∙ ap (λ (n : ℕ). pos n *ℤ start) (law.row i t inside (omega arith)) ∙ whole)
        (int_sum_by_times factor (λ j. pos (share j) *ℤ next k i t j) (moves c))
