-- The requests of a run, one after another. Assumes nothing.
use Rattle.std.proofs.Common.{◌≡◌, List, [], ◌∷◌, ◌++◌, map, refl, sym, ap, subst, ◌∙◌}
use Rattle.std.proofs.lemmas.List.{append_assoc, map-append, append-nil}
use Rattle.basis.specs.declared.Basis.{Ghosts as BasisGhosts}
use Rattle.plan.specs.declared.Plan.{Ghosts as PlanGhosts}
use Rattle.valuation.specs.Operations.{Operations}
use Rattle.contract.specs.Calls.{asked, said, Turns, Goes}
use Rattle.contract.specs.ContractStates.{basis_of, standing, ledger_of, Enters}
use Rattle.contract.specs.Ledgers.{Request, Answer}
use Rattle.contract.specs.Runs.{Ask, Told, Call, Reply, Turn, Runs, done, asked as asked_turn}
use Rattle.contract.specs.Standings.{Standing, Books}
use Rattle.contract.specs.declared.answer.Answer.{Answer as CodeAnswer}
use Rattle.contract.specs.declared.contract.Contract.{Contract}
use Rattle.contract.specs.declared.request.Request.{Request as CodeRequest}
use Rattle.contract.proofs.Turns.{runs_on}

module _ {F B P : Type 0} {b : BasisGhosts B} {p : PlanGhosts P} (v : Operations F) where
  -- an entry as a turn of the contract, however it was asked and told
  pub turns_there : (old new : Contract B P b p) (q : Request) (a : Answer) (call : Call) (reply : Reply F) → call ≡ Ask q → reply ≡ Told a → Enters old q a new → Turns v old call reply new
  turns_there old new q a call reply asks tells enters =
      subst (λ x. Turns v old x reply new) (sym asks) (subst (λ y. Turns v old (Ask q) y new) (sym tells)
      (record { same_basis = enters.same_basis; turn = λ books. let made = enters.entry books in (made.0, asked_turn made.1) }))

  pub goes_nowhere : (k : Contract B P b p) (answers : List (CodeAnswer F)) → Goes v k [] answers answers k
  goes_nowhere k answers = record { same_basis = refl; answers = []; behind = sym (append-nil answers); runs = λ books. (books, done) }

  pub goes_further : (k l m : Contract B P b p) (requests : List (CodeRequest P)) (request : CodeRequest P) (before after then : List (CodeAnswer F)) (answer : CodeAnswer F) → then ≡ after ++ answer ∷ [] → Goes v k requests before after l → Turns v l (asked p.payments request) (said answer) m → Goes v k (requests ++ request ∷ []) before then m
  goes_further k l m requests request before after then answer pushed goes turns =
      let same : basis_of l ≡ basis_of k = ap (λ x. b.meaning x.now) goes.same_basis in
      record {
        same_basis = turns.same_basis ∙ goes.same_basis;
        answers = goes.answers ++ answer ∷ [];
        behind = pushed ∙ ap (λ xs. xs ++ answer ∷ []) goes.behind ∙ append_assoc before goes.answers (answer ∷ []);
        runs = λ books.
            let so_far = goes.runs books in
            let one = turns.turn so_far.0 in
            let here : Turn (basis_of k) v (ledger_of (standing l) so_far.0) (asked p.payments request) (said answer) (ledger_of (standing m) one.0) =
            subst (λ c. Turn c v (ledger_of (standing l) so_far.0) (asked p.payments request) (said answer) (ledger_of (standing m) one.0)) same one.1 in (
              one.0,
              subst (λ qs. Runs (basis_of k) v (ledger_of (standing k) books) qs (map said (goes.answers ++ answer ∷ [])) (ledger_of (standing m) one.0)) (sym (map-append (asked p.payments) requests (request ∷ [])))
                  (subst (λ rs. Runs (basis_of k) v (ledger_of (standing k) books) (map (asked p.payments) requests ++ asked p.payments request ∷ []) rs (ledger_of (standing m) one.0)) (sym (map-append said goes.answers (answer ∷ [])))
                  (runs_on (basis_of k) v (ledger_of (standing k) books) (ledger_of (standing l) so_far.0) (ledger_of (standing m) one.0) (map (asked p.payments) requests) (map said goes.answers) (asked p.payments request) (said answer) so_far.1 here)),
            );
      }
