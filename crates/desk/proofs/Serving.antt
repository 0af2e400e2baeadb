-- What the desk does, by what the contract answers. Assumes nothing.
use Rattle.std.proofs.Common.{◌≡◌, ℕ, ℤ, pos, Option, Some, None, is_some, true, false, List, refl, sym, ap, subst, ◌∙◌, arith}
use Rattle.units.specs.declared.fault.Fault.{Fault}
use Rattle.basis.specs.Transitions.{Transitions}
use Rattle.basis.specs.TransitionTables.{transition_table}
use Rattle.basis.specs.declared.Basis.{Ghosts as BasisGhosts}
use Rattle.basis.specs.declared.table.TransitionTable.{TransitionTable}
use Rattle.plan.specs.declared.Plan.{Ghosts as PlanGhosts}
use Rattle.plan.specs.declared.endowment.Endowment.{Endowment}
use Rattle.contract.specs.ContractStates.{Enters, basis_of, ledger_of, standing}
use Rattle.contract.specs.Ledgers.{Request, Answer, Entry}
use Rattle.contract.specs.Standings.{Ledger, Books, Terms, AreTerms, IsPriced, issued, begun, reserve_at, opening_result}
use Rattle.contract.specs.declared.contract.Contract.{Contract}
use Rattle.sheet.specs.Checks.{first_broken}
use Rattle.sheet.specs.Lines.{parts}
use Rattle.sheet.specs.declared.spot.Spot.{Spot}
use Rattle.desk.specs.Commands.{Command, issue, close, alter, leave, needs_contract, IsCommandText}
use Rattle.desk.specs.CommandChecks.{line_checks}
use Rattle.desk.specs.Meanings.{Means}
use Rattle.desk.specs.Meanings as meanings
use Rattle.desk.specs.Serving.{Keeps, Comes, done, misplaced}
use Rattle.desk.specs.Sessions.{Does, Replies, told_at, terms_issued, issue_told, refuses, does, issues, issues_none, closes, closes_not, alters, alters_not, leaves}
use Rattle.desk.specs.declared.command.Command as code
use Rattle.desk.specs.declared.command.Command.TheVariants as code_of
use Rattle.desk.specs.declared.reply.Reply.{Reply}
use Rattle.desk.specs.declared.reply.Reply.TheVariants as says
use Rattle.desk.proofs.Said.{finds_none, then_not_standing, refused_early}

-- an entry of a contract as one of a ledger that stands alike
pub entry_of : {B P : Type 0} {b : BasisGhosts B} {p : PlanGhosts P} (old new : Contract B P b p) (l : Ledger) (q : Request) (a : Answer) → standing old ≡ l.stands → Enters old q a new → (d : Books) × Entry (basis_of old) l q a (ledger_of (standing new) d)
entry_of old new l q a same enters = let e = enters.entry l.books in (e.0, subst (λ x. Entry (basis_of old) (ledger_of x l.books) q a (ledger_of (standing new) e.0)) same e.1)

-- ---- by what the contract answers
module _ (basis : TransitionTable) (spot : Spot) where
  pub issued_as : (s k g d : ℕ) (x : Terms) (premium reserve result : ℤ) → x ≡ terms_issued s k g d x.premium → AreTerms (transition_table basis) x → IsPriced (transition_table basis) x → premium ≡ pos x.premium → reserve ≡ reserve_at (transition_table basis) (begun x) → result ≡ opening_result (transition_table basis) x → Does (transition_table basis) spot None (issue s k g d) (says.Issued premium reserve result) (Some (issued (transition_table basis) x))
  issued_as s k g d x premium reserve result is terms priced a b c =
      let t : Transitions = transition_table basis in
      let y : Terms = terms_issued s k g d x.premium in
      let told : says.Issued premium reserve result ≡ issue_told t x = ap (λ z. says.Issued z reserve result) a ∙ ap (λ z. says.Issued (pos x.premium) z result) b ∙ ap (says.Issued (pos x.premium) (reserve_at t (begun x))) c in
      let made : Does t spot None (issue s k g d) (issue_told t y) (Some (issued t y)) = issues (subst (AreTerms t) is terms) (subst (IsPriced t) is priced) in
      subst (λ r. Does t spot None (issue s k g d) r (Some (issued t x))) (sym told) (subst (λ z. Does t spot None (issue s k g d) (issue_told t z) (Some (issued t z))) (sym is) made)

-- ---- by what the command is
module _ (R : Command → Type 0) where
  pub issue_meant : (c : Command) (plan : Endowment) (deposit : ℤ) → Means (code_of.Issue plan deposit) c → ((d : ℕ) → pos d ≡ deposit → R (issue plan.sum.ticks plan.term plan.paying_years d)) → R c
  issue_meant _ plan _ (meanings.issues _ d) f = f d refl

  pub close_meant : (c : Command) (state : ℕ) (rate : ℤ) → Means (code_of.Close state rate) c → R (close state rate) → R c
  close_meant _ state rate (meanings.closes _ _) r = r

  pub alter_meant : (c : Command) (plan : Endowment) → Means (code_of.Alter plan) c → R (alter plan.sum.ticks plan.term plan.paying_years) → R c
  alter_meant _ plan (meanings.alters _) r = r

  pub leave_meant : (c : Command) → Means code_of.Leave c → R leave → R c
  leave_meant _ meanings.leaves r = r

-- a command that does not issue needs a contract, and one that does needs none
pub needs_one : (command : code.Command) (c : Command) → Means command c → ((plan : Endowment) (deposit : ℤ) → command ≡ code_of.Issue plan deposit → ⊥) → needs_contract c ≡ false → ⊥
needs_one _ _ (meanings.issues plan d) not e = not plan (pos d) refl
needs_one _ _ (meanings.closes state rate) not e = grind arith
needs_one _ _ (meanings.alters plan) not e = grind arith
needs_one _ _ meanings.leaves not e = grind arith

pub needs_none : (c : Command) (plan : Endowment) (deposit : ℤ) → Means (code_of.Issue plan deposit) c → needs_contract c ≡ true → ⊥
needs_none _ plan _ (meanings.issues _ d) e = grind arith

-- ---- by whether a contract is held
module _ (b : BasisGhosts TransitionTable) (p : PlanGhosts Endowment) (basis : TransitionTable) (R : Option Ledger → Type 0) (kept : Option Ledger) where
  pub none_kept : Keeps {b = b} {p = p} basis None kept → R None → R kept
  none_kept keeps r = elim kept as (λ k. Keeps {b = b} {p = p} basis None k → R k) [ None ↦ λ _. r | Some l ↦ λ no. absurd no ] keeps

  pub some_kept : (held : Contract TransitionTable Endowment b p) → Keeps basis (Some held) kept → ((l : Ledger) → held.basis.now ≡ basis → standing held ≡ l.stands → R (Some l)) → R kept
  some_kept held keeps f = elim kept as (λ k. Keeps basis (Some held) k → R k) [ None ↦ λ no. absurd no | Some l ↦ λ k. f l k.0 k.1 ] keeps

-- ---- the reply to a line

-- who does a command found what it needs
found : (c : Transitions) (spot : Spot) (kept then : Option Ledger) (command : Command) (reply : Reply) → Does c spot kept command reply then → needs_contract command ≡ is_some kept
found c spot _ _ _ _ (issues a x) = refl
found c spot _ _ _ _ (issues_none n) = refl
found c spot _ _ _ _ (closes e) = refl
found c spot _ _ _ _ (closes_not e) = refl
found c spot _ _ _ _ (alters e) = refl
found c spot _ _ _ _ (alters_not e) = refl
found c spot _ _ _ _ (leaves e) = refl

module _ (basis : TransitionTable) (spot : Spot) (line : List ℕ) (kept : Option Ledger) where
  pub replies_by : (command : Command) (reply : Reply) (then : Option Ledger) → first_broken (line_checks (transition_table basis).years spot (parts line)) ≡ None → IsCommandText (transition_table basis).years line command → Comes basis spot kept command reply then → Replies (transition_table basis) kept spot line reply then
  replies_by command reply then unbroken is (done d) = does (record { text = is.text; allowed = is.allowed; standing = found (transition_table basis) spot kept then command reply d }) d
  replies_by command _ _ unbroken is (misplaced other) =
      let years = (transition_table basis).years in
      refuses (then_not_standing years (is_some kept) spot line unbroken (finds_none years (is_some kept) line command is.allowed is.text other))

  pub replies_refused : (fault : Fault) (reply : Reply) → reply ≡ told_at spot fault → first_broken (line_checks (transition_table basis).years spot (parts line)) ≡ Some fault → Replies (transition_table basis) kept spot line reply kept
  replies_refused fault reply is broken = subst (λ x. Replies (transition_table basis) kept spot line x kept) (sym is) (refuses (refused_early (transition_table basis).years (is_some kept) spot line fault broken))
