-- What is issued on a plan, in a start state and on a deposit: at one premium or, for one reason, not at all. Assumes nothing.
use Rattle.std.proofs.Common.{◌≡◌, ℕ, ◌<◌, ◌≤◌, ℤ, pos, Result, Ok, Err, MatchResult, refl, sym, ap, ◌∙◌, subst, arith}
use Rattle.units.specs.Faults.{entry_fault}
use Rattle.units.specs.Ranges.{WithinLimit}
use Rattle.units.specs.declared.fault.Fault.{Fault}
use Rattle.units.specs.declared.fault.Layer.TheVariants.{Contract}
use Rattle.units.specs.declared.amount.Amount.{Amount}
use Rattle.basis.specs.Transitions.{Transitions}
use Rattle.basis.specs.declared.Basis.{Ghosts as BasisGhosts}
use Rattle.plan.specs.Payments.{Payments}
use Rattle.plan.specs.declared.Plan.{Ghosts as PlanGhosts}
use Rattle.valuation.specs.Premiums.{NoPremium}
use Rattle.contract.specs.Cases.{IsIssued, IssuesOn, terms_at}
use Rattle.contract.specs.Proposals.{Takes, Issues, IssuesAtLeastPremium, LeastOf, NoneOf, bearing, basis_proposed, terms_of, begins_with, placed_in, deposited, priced_at}
use Rattle.contract.specs.Standings.{Terms, AreTerms, IsPriced, NotIssued, begun, opening_result, reserve_at, start_outside, deposit_outside, no_premium}
use Rattle.contract.specs.declared.case.Issued.{Issued}
use Rattle.contract.specs.declared.proposal.Proposal.{Proposal}
use Rattle.contract.proofs.Turns.{least_once}

-- ---- why nothing is issued, by what a proposal answers
module _ (c : Transitions) (plan : Payments) (start : ℕ) (deposit : ℤ) (fault : Fault) where
  pub not_placed : (first : ℕ) → first ≡ 0 → c.states ≤ start → fault ≡ entry_fault 14 Contract 0 first → NotIssued c plan start deposit fault
  not_placed first at outside told = subst (NotIssued c plan start deposit) (sym (told ∙ ap (entry_fault 14 Contract 0) at)) (start_outside outside)

  pub not_deposited : (placed : ℕ) → placed ≡ start → start < c.states → (WithinLimit deposit → ⊥) → fault ≡ entry_fault 15 Contract 0 placed → NotIssued c plan start deposit fault
  not_deposited placed at inside outside told = subst (NotIssued c plan start deposit) (sym (told ∙ ap (entry_fault 15 Contract 0) at)) (deposit_outside inside outside)

  pub not_priced : (other : Payments) (placed : ℕ) (bound : ℤ) → other ≡ plan → placed ≡ start → bound ≡ deposit → start < c.states → WithinLimit deposit → NoPremium c other placed 0 bound fault → NotIssued c plan start deposit fault
  not_priced other placed bound same at is inside range none =
      let here : NoPremium c plan start 0 deposit fault = subst (λ p. NoPremium c p start 0 deposit fault) same (subst (λ i. NoPremium c other i 0 deposit fault) at (subst (λ z. NoPremium c other placed 0 z fault) is none)) in
      subst (NotIssued c plan start deposit) (sym here.told) (no_premium inside range here.none)

-- ---- one premium, or one reason
module _ (c : Transitions) (plan : Payments) (start : ℕ) (deposit : ℤ) where
  pub priced_once : (premium other : ℕ) → IsPriced c (terms_at plan start deposit premium) → IsPriced c (terms_at plan start deposit other) → premium ≡ other
  priced_once premium other priced also = least_once c plan start 0 deposit premium other priced also

  pub issued_or_not : (premium : ℕ) (fault : Fault) → AreTerms c (terms_at plan start deposit premium) → IsPriced c (terms_at plan start deposit premium) → NotIssued c plan start deposit fault → ⊥
  issued_or_not premium _ terms priced (start_outside outside) = omega (arith, outside, terms.start_in_basis)
  issued_or_not premium _ terms priced (deposit_outside inside outside) = outside terms.deposit_range
  issued_or_not premium _ terms priced (no_premium inside range none) = none premium priced.in_range priced.suffices

  pub not_issued_once : (fault other : Fault) → NotIssued c plan start deposit fault → NotIssued c plan start deposit other → fault ≡ other
  not_issued_once _ _ (start_outside x) (start_outside y) = refl
  not_issued_once _ _ (start_outside x) (deposit_outside y n) = absurd (omega (arith, x, y))
  not_issued_once _ _ (start_outside x) (no_premium y r n) = absurd (omega (arith, x, y))
  not_issued_once _ _ (deposit_outside y n) (start_outside x) = absurd (omega (arith, x, y))
  not_issued_once _ _ (deposit_outside x n) (deposit_outside y m) = refl
  not_issued_once _ _ (deposit_outside x n) (no_premium y r m) = absurd (n r)
  not_issued_once _ _ (no_premium y r m) (start_outside x) = absurd (omega (arith, x, y))
  not_issued_once _ _ (no_premium y r m) (deposit_outside x n) = absurd (n r)
  not_issued_once _ _ (no_premium x r n) (no_premium y q m) = refl

-- ---- what is issued, by the steps that a proposal takes: new, placed, deposited on and priced
module _ {B P : Type 0} {b : BasisGhosts B} {p : PlanGhosts P} (fresh on_place on_deposit on_price : Proposal B P b p) where
  pub is_issued : (basis : B) (plan : P) (start : ℕ) (deposit : ℤ) (premium : Amount) (made : Issued B P b p) → fresh.basis.now ≡ basis → terms_of fresh ≡ begins_with (p.payments plan) → Takes fresh (placed_in start (terms_of fresh)) on_place → Takes on_place (deposited deposit (terms_of on_place)) on_deposit → LeastOf on_deposit premium.ticks → Takes on_deposit (priced_at premium.ticks (terms_of on_deposit)) on_price → Issues on_price made → IsIssued basis plan start deposit made
  is_issued basis plan start deposit premium made on begins placed laid least priced issues =
      let c : Transitions = b.meaning basis in
      let x : Terms = terms_at (p.payments plan) start deposit premium.ticks in
      let y : Terms = terms_at (p.payments plan) start deposit made.premium.ticks in
      let there : on_deposit.basis.now ≡ basis = ap (λ r. r.now) laid.same_basis ∙ ap (λ r. r.now) placed.same_basis ∙ on in
      let here : on_price.basis.now ≡ basis = ap (λ r. r.now) priced.same_basis ∙ there in
      let on_deposit_terms : terms_of on_deposit ≡ deposited deposit (placed_in start (begins_with (p.payments plan))) = laid.takes ∙ ap (deposited deposit) (placed.takes ∙ ap (placed_in start) begins) in
      let terms : terms_of on_price ≡ x = priced.takes ∙ ap (priced_at premium.ticks) on_deposit_terms in
      let same_terms : x ≡ y = ap (terms_at (p.payments plan) start deposit) (sym (issues.premium ∙ ap (λ t. t.premium) terms)) in
      let is_priced : IsPriced c x = subst (λ z. IsPriced (b.meaning z) x) there (subst (λ t. IsPriced (basis_proposed on_deposit) (priced_at premium.ticks t)) on_deposit_terms least) in
      let are_terms : AreTerms c x = subst (λ z. AreTerms (b.meaning z) x) here (subst (AreTerms (basis_proposed on_price)) terms issues.are_terms) in
      record {
        same_basis = issues.same_basis ∙ here;
        issued_at = record { terms = subst (AreTerms c) same_terms are_terms; priced = subst (IsPriced c) same_terms is_priced };
        stands = issues.stands ∙ ap begun (terms ∙ same_terms);
        reserve = issues.reserve ∙ ap (λ z. reserve_at (b.meaning z) (begun (terms_of on_price))) here ∙ ap (λ t. reserve_at c (begun t)) (terms ∙ same_terms);
        opening = issues.opening ∙ ap (λ z. opening_result (b.meaning z) (terms_of on_price)) here ∙ ap (opening_result c) (terms ∙ same_terms);
      }

-- ---- what comes of pricing and issuing in one, once a proposal is placed and deposited on
module _ {B P : Type 0} {b : BasisGhosts B} {p : PlanGhosts P} (fresh on_place on_deposit : Proposal B P b p) where
  pub issued_at_least_premium : (basis : B) (plan : P) (start : ℕ) (deposit : ℤ) → fresh.basis.now ≡ basis → terms_of fresh ≡ begins_with (p.payments plan) → Takes fresh (placed_in start (terms_of fresh)) on_place → Takes on_place (deposited deposit (terms_of on_place)) on_deposit → start < (b.meaning basis).states → WithinLimit deposit → (result : Result (Issued B P b p) Fault) → MatchResult result (IssuesAtLeastPremium on_deposit) (NoneOf on_deposit) → IssuesOn basis plan start deposit result
  issued_at_least_premium basis plan start deposit on begins placed laid inside range (Ok made) issued =
      is_issued fresh on_place on_deposit (bearing made.premium on_deposit) basis plan start deposit made.premium made on begins placed laid issued.least (record { same_basis = refl; takes = refl }) issued.issues
  issued_at_least_premium basis plan start deposit on begins placed laid inside range (Err fault) none =
      let there : on_deposit.basis.now ≡ basis = ap (λ r. r.now) laid.same_basis ∙ ap (λ r. r.now) placed.same_basis ∙ on in
      let terms : terms_of on_deposit ≡ terms_at (p.payments plan) start deposit 0 = laid.takes ∙ ap (deposited deposit) (placed.takes ∙ ap (placed_in start) begins) in
      let here : NoPremium (b.meaning basis) (p.payments on_deposit.plan) on_deposit.start 0 (pos on_deposit.deposit.ticks) fault = subst (λ z. NoPremium (b.meaning z) (p.payments on_deposit.plan) on_deposit.start 0 (pos on_deposit.deposit.ticks) fault) there none in
      not_priced (b.meaning basis) (p.payments plan) start deposit fault (p.payments on_deposit.plan) on_deposit.start (pos on_deposit.deposit.ticks) (ap (λ t. t.plan) terms) (ap (λ t. t.start) terms) (ap (λ t. t.deposit) terms) inside range here
