-- Who pays at least as much is nowhere valued lower, in any valuation. Assumes nothing.
use Rattle.std.proofs.Common.{◌≡◌, ℕ, zero, suc, ◌+◌, ◌-◌, ◌<◌, ◌≤◌, Bool, true, false, cond, ◌&&◌}
use Rattle.std.proofs.Common.{map, nat_lt, List, ℤ, pos, ◌≤ℤ◌, refl, ⊎_elim, arith}
use borrow.Author.Differences.{ints}
use Rattle.std.specs.List.{AllZip, range_with_len}
use Rattle.std.proofs.lemmas.Bool.Decides.{nat_tests, leb_tells}
use Rattle.basis.specs.Transitions.{Transitions}
use Rattle.plan.specs.Payments.{Payments}
use Rattle.valuation.specs.Comparisons.{NowhereValuedLower, NeverRaisedByPremium}
use Rattle.valuation.specs.Figures.{flow, figure_with, figure}
use Rattle.valuation.specs.Operations.{Operations, EndByEnd, Ordered}

module _ {F : Type 0} (order : F → F → Type 0) (f g : ℕ → F) (m : ℕ) (each : (j : ℕ) → j < m → order (f j) (g j)) where
  zip_from : (a n : ℕ) → a + n ≤ m → AllZip order (map f (range_with_len a n)) (map g (range_with_len a n))
  zip_from a zero l = tt
  zip_from a (suc n) l = (each a (omega arith), zip_from (a + 1) n (omega arith))

  pub zip_below : AllZip order (map f (range_with_len 0 m)) (map g (range_with_len 0 m))
  zip_below = zip_from 0 m (omega arith)

-- the premium that is charged is no higher where the marks are alike
charge_keeps : (early due also : Bool) (lower higher : ℕ) → (early ≡ true → due ≡ also) → lower ≤ higher → cond (early && also) lower 0 ≤ cond (early && due) higher 0
charge_keeps true true true lower higher alike l = l
charge_keeps true true false lower higher alike l = omega arith
charge_keeps true false true lower higher alike l = let no = alike refl in cc
charge_keeps true false false lower higher alike l = omega arith
charge_keeps false due also lower higher alike l = omega arith

flow_keeps : (c : Transitions) (less more : Payments) (dearer cheaper i u : ℕ) → cheaper ≤ dearer → less.benefit i u ≤ more.benefit i u → (u < c.years → less.due i u ≡ more.due i u) → flow c less dearer i u ≤ℤ flow c more cheaper i u
flow_keeps c less more dearer cheaper i u premiums benefits marks =
    let charge = charge_keeps (nat_lt u c.years) (less.due i u) (more.due i u) cheaper dearer (λ early. marks (grind (arith, nat_tests))) premiums in
    omega (arith, ints, charge, benefits)

module _ {F : Type 0} (ends : F → List ℤ) (v : Operations F) (law : Ordered ends v)
    (c : Transitions) where
  -- flows and move benefits are compared in states below m, of which the basis has no more, from year t on
  module _ (less more : Payments) (dearer cheaper m t : ℕ) (states : c.states ≤ m)
      (flows : (i u : ℕ) → i < m → t ≤ u → u ≤ c.years → flow c less dearer i u ≤ℤ flow c more cheaper i u)
      (paid : (i j u : ℕ) → i < m → j < c.states → t ≤ u → u < c.years → less.move_benefit i j u ≤ more.move_benefit i j u) where
    abbrev lower : ℕ → ℕ → ℕ → F
    lower = figure_with v c less dearer

    abbrev upper : ℕ → ℕ → ℕ → F
    upper = figure_with v c more cheaper

    figure_with_keeps : (k i u : ℕ) → i < m → t ≤ u → u + k ≡ c.years →
        EndByEnd ends (lower k i u) (upper k i u)
    figure_with_keeps zero i u inside l e = law.make_keeps _ _ (flows i u inside l (omega arith))
    figure_with_keeps (suc k) i u inside l e =
        let less_after : ℕ → F = λ j. v.add (lower k j (u + 1)) (pos (less.move_benefit i j u)) in
        let more_after : ℕ → F = λ j. v.add (upper k j (u + 1)) (pos (more.move_benefit i j u)) in
        let next : (j : ℕ) → j < c.states → EndByEnd ends (less_after j) (more_after j) = λ j below.
        law.add_keeps _ _ _ _ (figure_with_keeps k j (u + 1) (omega arith) (omega arith) (omega arith)) (omega (arith, ints, paid i j u inside below l (omega arith))) in
        let zipped = zip_below (EndByEnd ends) less_after more_after c.states next in
        let discounted = law.discount_keeps (c.factor u) _ _ (law.join_keeps i _ _ _ zipped) in
        law.add_keeps _ _ _ _ discounted (flows i u inside l (omega arith))

  pub nowhere_valued_lower : NowhereValuedLower ends c (figure v c)
  nowhere_valued_lower t less dearer more cheaper pays i u inside l early =
      figure_with_keeps less more dearer cheaper c.states t (omega arith)
      (λ i u inside l early. flow_keeps c less more dearer cheaper i u pays.premiums (pays.benefits i u inside l early) (pays.marks i u inside l))
      pays.move_benefits
      (c.years - u) i u inside l (omega arith)

  flow_falls : (p : Payments) (lower higher i t : ℕ) → lower ≤ higher → flow c p higher i t ≤ℤ flow c p lower i t
  flow_falls p lower higher i t l = flow_keeps c p p higher lower i t l (omega arith) (λ early. refl)

  pub never_raised_by_premium : NeverRaisedByPremium ends c (figure v c)
  never_raised_by_premium p lower higher l i t = ⊎_elim
      (λ early.
      figure_with_keeps p p higher lower (suc (i + c.states)) t (omega arith)
      (λ i u inside l′ e. flow_falls p lower higher i u l)
      (λ i j u inside below l′ e. omega arith)
      (c.years - t) i t (omega arith) (omega arith) (omega (arith, early.1)))
      (λ late.
      let none : c.years - t ≡ 0 = omega (arith, late.1) in
      rw (none) (law.make_keeps _ _ (flow_falls p lower higher i t l)))
      (leb_tells t c.years)
