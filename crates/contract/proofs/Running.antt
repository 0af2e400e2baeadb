-- A case that is run. Assumes nothing.
use Rattle.std.proofs.Common.{◌≡◌, List, map, vec_items, ap, sym, subst, ◌∙◌}
use Rattle.basis.specs.Transitions.{Transitions, Lawful}
use Rattle.basis.specs.declared.Basis.{Ghosts as BasisGhosts}
use Rattle.plan.specs.declared.Plan.{Ghosts as PlanGhosts}
use Rattle.valuation.specs.Operations.{Operations}
use Rattle.contract.specs.Calls.{asked, said, Goes}
use Rattle.contract.specs.Cases.{IsIssued, IsRun, EndsAs, Finishes, terms_of_case}
use Rattle.contract.specs.ContractStates.{basis_of, standing, ledger_of}
use Rattle.contract.specs.Promises.{IsWholeRun}
use Rattle.contract.specs.Runs.{Runs, Ends, End}
use Rattle.contract.specs.Standings.{Terms, Standing, Books, IsPriced, opening_result, begun, issued}
use Rattle.contract.specs.declared.answer.Answer.{Answer}
use Rattle.contract.specs.declared.case.Case.{Case}
use Rattle.contract.specs.declared.case.Issued.{Issued}
use Rattle.contract.specs.declared.case.Run.{Run}
use Rattle.contract.specs.declared.contract.Contract.{Contract}
use Rattle.contract.proofs.Keeping.{settled}

module _ {F B P : Type 0} {b : BasisGhosts B} {p : PlanGhosts P} (v : Operations F) (basis : B) (law : Lawful (b.meaning basis)) (case : Case P) (before after : List (Answer F)) where
  pub is_run : (made : Issued B P b p) (new : Contract B P b p) (run : Run B P b p) → IsIssued basis case.plan case.start case.deposit made → run.premium ≡ made.premium → run.opening_result ≡ made.opening_result → Goes v made.contract (vec_items case.requests) before after new → Finishes new case.leaves run.end → IsRun v basis case before after run
  is_run made new run is premium opening goes finishes =
      let c : Transitions = b.meaning basis in
      let x : Terms = terms_of_case p.payments case made.premium.ticks in
      let y : Terms = terms_of_case p.payments case run.premium.ticks in
      let same_terms : x ≡ y = ap (λ n. terms_of_case p.payments case n.ticks) (sym premium) in
      let same : new.basis.now ≡ basis = ap (λ r. r.now) goes.same_basis ∙ is.same_basis in
      let ran = goes.runs (issued c x).books in
      let ended = finishes ran.0 in
      let runs : Runs c v (issued c x) (map (asked p.payments) (vec_items case.requests)) (map said goes.answers) (ledger_of (standing new) ran.0) =
      subst (λ s. Runs c v (ledger_of s (issued c x).books) (map (asked p.payments) (vec_items case.requests)) (map said goes.answers) (ledger_of (standing new) ran.0)) is.stands
      (subst (λ z. Runs (b.meaning z) v (ledger_of (standing made.contract) (issued c x).books) (map (asked p.payments) (vec_items case.requests)) (map said goes.answers) (ledger_of (standing new) ran.0)) is.same_basis ran.1) in
      let ends : Ends c (ledger_of (standing new) ran.0) case.leaves ended.0 = subst (λ z. Ends (b.meaning z) (ledger_of (standing new) ran.0) case.leaves ended.0) same ended.1 in
      let whole : IsWholeRun c v x (map (asked p.payments) (vec_items case.requests)) (map said goes.answers) case.leaves ended.0 =
      record { ledger = ledger_of (standing new) ran.0; comes_to = record { terms = is.issued_at.terms; runs = runs }; ends = ends } in
      let whole_run = subst (λ t. IsWholeRun c v t (map (asked p.payments) (vec_items case.requests)) (map said goes.answers) case.leaves ended.0) same_terms whole in
      record {
        priced = subst (λ t. IsPriced c t) same_terms is.issued_at.priced;
        opening = opening ∙ is.opening ∙ ap (opening_result c) same_terms;
        answers = goes.answers;
        behind = goes.behind;
        end = ended.0;
        whole_run = whole_run;
        settled = settled c v y (map (asked p.payments) (vec_items case.requests)) (map said goes.answers) case.leaves ended.0 whole_run;
        ends = subst (λ z. EndsAs z run.end ended.0) same ended.2;
      }
