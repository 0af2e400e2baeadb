-- The page of a sheet that was read into a table. Assumes nothing.
use Rattle.std.proofs.Common.{◌≡◌, ◌++◌, ℕ, ◌≤◌, List, [], length, pos, ap, subst, ◌∙◌, arith}
use Rattle.std.proofs.lemmas.Int.{ints}
use Rattle.units.specs.declared.fault.Fault.{Fault}
use Rattle.basis.specs.Transitions.{Transitions}
use Rattle.plan.specs.Endowments.{Holds, endows, endowment}
use Rattle.plan.specs.declared.endowment.Endowment.{Endowment}
use Rattle.valuation.specs.Premiums.{LeastPremium, NoPremium}
use Rattle.streams.specs.Streams.{most_read}
use Rattle.sheet_reserves.specs.Outcomes.{IsPage}
use Rattle.sheet_reserves.specs.Pages.{heading, opening, page, plan_over, rows}
use Rattle.sheet_reserves.proofs.Cells.{behind}

-- longer inputs have no page
pub longer : (bytes input text : List ℕ) → most_read ≤ length bytes → most_read ≤ length input → IsPage bytes text → IsPage input text
longer bytes input text full long is = let short = is.fits in absurd (omega (arith, short, full))

module _ (c t : Transitions) (same : t ≡ c) (plan : Endowment) (years : ℕ) (holds : Holds plan (pos 10000000) years years) (all : years ≡ t.years) where
  plan_is : endowment plan ≡ plan_over c
  plan_is =
      let amount : plan.sum.ticks ≡ 10000000 = (let so = holds.amount in omega (arith, ints, so)) in
      ap (λ s. endows s plan.term plan.paying_years) amount
      ∙ (ap (λ k. endows 10000000 k plan.paying_years) holds.years
      ∙ (ap (endows 10000000 years) holds.paying
      ∙ (ap (λ n. endows 10000000 n n) all ∙ ap (λ b. plan_over b) same)))

  pub priced : (premium : ℕ) → LeastPremium t (endowment plan) 0 0 (pos 0) premium → LeastPremium c (plan_over c) 0 0 (pos 0) premium
  priced premium least = subst (λ b. LeastPremium b (plan_over c) 0 0 (pos 0) premium) same (subst (λ p. LeastPremium t p 0 0 (pos 0) premium) plan_is least)

  pub unpriced : (fault : Fault) → NoPremium t (endowment plan) 0 0 (pos 0) fault → NoPremium c (plan_over c) 0 0 (pos 0) fault
  unpriced fault none = subst (λ b. NoPremium b (plan_over c) 0 0 (pos 0) fault) same (subst (λ p. NoPremium t p 0 0 (pos 0) fault) plan_is none)

  pub page_written : (premium states : ℕ) (empty first second third : List ℕ) → empty ≡ [] → states ≡ t.states → first ≡ empty ++ opening years premium → second ≡ first ++ heading states → third ≡ second ++ rows t (endowment plan) premium → third ≡ page c premium
  page_written premium states empty first second third none wide one two three =
      behind empty _ _ one (behind first _ _ two three)
      ∙ (ap (λ xs. xs ++ (opening years premium ++ (heading states ++ rows t (endowment plan) premium))) none
      ∙ (ap (λ n. opening n premium ++ (heading states ++ rows t (endowment plan) premium)) all
      ∙ (ap (λ m. opening t.years premium ++ (heading m ++ rows t (endowment plan) premium)) wide
      ∙ (ap (λ p. opening t.years premium ++ (heading t.states ++ rows t p premium)) plan_is
      ∙ ap (λ b. opening b.years premium ++ (heading b.states ++ rows b (plan_over c) premium)) same))))
