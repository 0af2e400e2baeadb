-- The answer to a whole input. Assumes nothing.
use Rattle.std.proofs.Common.{◌≡◌, ◌++◌, ℕ, ◌<◌, ◌≤◌, List, [], length, None, sym, subst, ap, ◌∙◌}
use Rattle.units.specs.declared.fault.Fault.{Fault}
use Rattle.basis.specs.TransitionTables.{transition_table}
use Rattle.basis.specs.declared.table.TransitionTable.{TransitionTable}
use Rattle.sheet.specs.Faults.{Refuses, spot_past}
use Rattle.sheet.specs.Fields.{bytes_of}
use Rattle.sheet.specs.Lines.{start}
use Rattle.sheet.specs.Sheets.{Sheet, basis_of}
use Rattle.sheet.specs.Taken.{most, IsTaken}
use Rattle.sheet.specs.Texts.{text_of}
use Rattle.sheet.specs.declared.part.Part.{Part}
use Rattle.desk.specs.Inputs.{IsAnswer, too_long, no_sheet, session}
use Rattle.desk.specs.Replies.{reply_text}
use Rattle.desk.specs.Sessions.{Session, told_at}
use Rattle.desk.specs.declared.reply.Reply.{Reply}
use Rattle.desk.specs.declared.reply.Reply.TheVariants as says

-- what was written behind nothing is all there is
alone : {empty out text : List ℕ} → empty ≡ [] → out ≡ empty ++ text → out ≡ text
alone {text = text} none writes = writes ∙ ap (λ xs. xs ++ text) none

module _ (bytes empty out : List ℕ) (none : empty ≡ []) where
  pub long_answered : 60000 < length bytes → out ≡ empty ++ reply_text (says.Refused 1 1 0) → IsAnswer bytes out
  long_answered long writes = subst (IsAnswer bytes) (sym (alone none writes)) (too_long long)

  pub refusal_answered : length bytes ≤ 60000 → (fault : Fault) (reply : Reply) → Refuses most bytes fault → reply ≡ told_at start fault → out ≡ empty ++ reply_text reply → IsAnswer bytes out
  refusal_answered short fault reply refuses is writes = subst (IsAnswer bytes) (sym (alone none writes ∙ ap reply_text is)) (no_sheet short refuses)

  pub session_answered : length bytes ≤ 60000 → (table : TransitionTable) (rest : Part) (s : Sheet) (text : List ℕ) → IsTaken bytes table rest s → Session (transition_table table) None rest.spot (bytes_of rest) text → out ≡ empty ++ text → IsAnswer bytes out
  session_answered short table rest s text taken answers writes =
      let here : Session (basis_of s) None (spot_past (text_of (basis_of s))) (bytes_of rest) text = subst (λ b. Session b None (spot_past (text_of (basis_of s))) (bytes_of rest) text) taken.basis (subst (λ a. Session (transition_table table) None a (bytes_of rest) text) taken.spot answers) in
      subst (IsAnswer bytes) (sym (alone none writes)) (session short taken.sheet here)
