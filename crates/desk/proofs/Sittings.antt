-- The lines of an input, one after another. Assumes nothing.
use Rattle.std.proofs.Common.{◌≡◌, ◌≢◌, ℕ, ◌+◌, ◌≤◌, length, Option, None, false, List, [], ◌∷◌, ◌++◌, sym, ap, subst, ◌∙◌, arith}
use Rattle.std.proofs.lemmas.List.{append_assoc, append-nil, length-append}
use Rattle.basis.specs.TransitionTables.{transition_table}
use Rattle.basis.specs.declared.table.TransitionTable.{TransitionTable}
use Rattle.basis.specs.declared.Basis.{Ghosts as BasisGhosts}
use Rattle.plan.specs.declared.Plan.{Ghosts as PlanGhosts}
use Rattle.plan.specs.declared.endowment.Endowment.{Endowment}
use Rattle.contract.specs.Standings.{Ledger}
use Rattle.contract.specs.declared.contract.Contract.{Contract}
use Rattle.sheet.specs.Checks.{ends_in_time}
use Rattle.sheet.specs.Fields.{bytes_of}
use Rattle.sheet.specs.FirstLines.{IsFirstLine}
use Rattle.sheet.specs.Lines.{first_line, after_line, spot_after}
use Rattle.sheet.proofs.Kept.{line_cut}
use Rattle.sheet.specs.declared.part.Part.{Part}
use Rattle.sheet.specs.declared.spot.Spot.{Spot}
use Rattle.desk.specs.Replies.{reply_text}
use Rattle.desk.specs.Serving.{Keeps}
use Rattle.desk.specs.Sessions.{Replies, Session, ends, stops, goes_on}
use Rattle.desk.specs.declared.reply.Reply.{Reply}
use Rattle.desk.specs.declared.reply.Reply.TheVariants as says

module _ {b : BasisGhosts TransitionTable} {p : PlanGhosts Endowment} (basis : TransitionTable) (start : Spot) (bytes before : List ℕ) where
  -- the answers so far stand behind what was there, and those to what is left complete them
  pub record Ahead (held : Option (Contract TransitionTable Endowment b p)) (text : Part) (out : List ℕ) : Type 0 where
    pub kept : Option Ledger
    pub keeps : Keeps basis held kept
    pub answered : List ℕ
    pub behind : out ≡ before ++ answered
    pub completed : (more : List ℕ) → Session (transition_table basis) kept text.spot (bytes_of text) more → Session (transition_table basis) None start bytes (answered ++ more)

  pub begins : (text : Part) → text.spot ≡ start → bytes_of text ≡ bytes → Ahead None text before
  begins text at all = record {
    kept = None;
    keeps = tt;
    answered = [];
    behind = sym (append-nil before);
    completed = λ more s. subst (λ b. Session (transition_table basis) None start b more) all (subst (λ a. Session (transition_table basis) None a (bytes_of text) more) at s);
  }

  module _ (held : Option (Contract TransitionTable Endowment b p)) (text : Part) (out : List ℕ) (so_far : Ahead held text out) where
    pub further : (next : Option (Contract TransitionTable Endowment b p)) (line after : Part) (reply : Reply) (written : List ℕ) → IsFirstLine text line after →
        (then : Option Ledger) × Replies (transition_table basis) so_far.kept line.spot (bytes_of line) reply then × Keeps basis next then →
        written ≡ out ++ reply_text reply → Ahead next after written
    further next line after reply written first replied writes = record {
      kept = replied.0;
      keeps = replied.2;
      answered = so_far.answered ++ reply_text reply;
      behind = writes ∙ ap (λ xs. xs ++ reply_text reply) so_far.behind ∙ append_assoc before so_far.answered (reply_text reply);
      completed = λ more s.
          let rest : Session (transition_table basis) replied.0 (spot_after text.spot (bytes_of text)) (after_line (bytes_of text)) more = subst (λ a. Session (transition_table basis) replied.0 a (after_line (bytes_of text)) more) first.rest_spot (subst (λ b. Session (transition_table basis) replied.0 after.spot b more) first.rest_bytes s) in
          let here : Replies (transition_table basis) so_far.kept text.spot (first_line (bytes_of text)) reply replied.0 = subst (λ b. Replies (transition_table basis) so_far.kept text.spot b reply replied.0) first.line_bytes (subst (λ a. Replies (transition_table basis) so_far.kept a (bytes_of line) reply replied.0) first.line_spot replied.1) in
          subst (Session (transition_table basis) None start bytes) (sym (append_assoc so_far.answered (reply_text reply) more)) (so_far.completed (reply_text reply ++ more) (goes_on first.in_time here rest));
    }

    pub ended : bytes_of text ≡ [] → (text : List ℕ) × Session (transition_table basis) None start bytes text × (out ≡ before ++ text)
    ended empty =
        let last = so_far.completed [] (subst (λ b. Session (transition_table basis) so_far.kept text.spot b []) (sym empty) ends) in
        (so_far.answered, subst (Session (transition_table basis) None start bytes) (append-nil so_far.answered) last, so_far.behind)

    pub stopped : bytes_of text ≢ [] → ends_in_time (bytes_of text) ≡ false → (reply : Reply) (written : List ℕ) → reply ≡ says.Refused 2 text.spot.line text.spot.offset → written ≡ out ++ reply_text reply → (text : List ℕ) × Session (transition_table basis) None start bytes text × (written ≡ before ++ text)
    stopped some late reply written is writes =
        let last = so_far.completed (reply_text reply) (subst (λ r. Session (transition_table basis) so_far.kept text.spot (bytes_of text) (reply_text r)) (sym is) (stops some late)) in
        (so_far.answered ++ reply_text reply, last, writes ∙ ap (λ xs. xs ++ reply_text reply) so_far.behind ∙ append_assoc before so_far.answered (reply_text reply))

-- what stands after a line is shorter by a byte at least
pub shorter_rest : (text line rest : Part) → IsFirstLine text line rest → length (bytes_of rest) + 1 ≤ length (bytes_of text)
shorter_rest text line rest first =
    let bytes = bytes_of text in
    let cut = ap length (line_cut bytes first.in_time) in
    let sum = length-append (first_line bytes) (10 ∷ after_line bytes) in
    let same = ap length first.rest_bytes in
    omega (arith, cut, sum, same)
