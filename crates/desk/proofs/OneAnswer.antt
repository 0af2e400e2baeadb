-- An input has one answer. Assumes nothing.
use Rattle.std.proofs.Common.{◌≡◌, ℕ, ◌<◌, List, ◌++◌, pos, true, Option, Some, None, is_some, refl, sym, ap, ap₂, subst, ◌∙◌, arith}
use Rattle.units.specs.declared.fault.Fault.{Fault}
use Rattle.basis.specs.Transitions.{Transitions}
use Rattle.plan.specs.Endowments.{endows}
use Rattle.contract.specs.Cases.{terms_at}
use Rattle.contract.specs.Ledgers.{Request, Answer, Entry, Closed, Altered, IsWorth, LiesWithin, Written, Refused, NotWritten}
use Rattle.contract.specs.Runs.{Ends, Left, leaving_at}
use Rattle.contract.specs.Standings.{Ledger, Books, issued}
use Rattle.contract.specs.Steps.{Leaving}
use Rattle.contract.proofs.Issuing.{priced_once, issued_or_not, not_issued_once}
use Rattle.contract.proofs.Promised.{ends_once}
use Rattle.contract.proofs.Turns.{entry_once}
use Rattle.sheet.specs.Checks.{first_broken}
use Rattle.sheet.specs.Faults.{spot_past}
use Rattle.sheet.specs.Lines.{start, first_line, after_line, spot_after}
use Rattle.sheet.specs.Reading.{Outcome, Reads, ends as ends_at, refused, nothing_yet}
use Rattle.sheet.specs.Sheets.{Sheet, basis_of}
use Rattle.sheet.specs.Taken.{most}
use Rattle.sheet.specs.Texts.{text_of}
use Rattle.sheet.specs.declared.spot.Spot.{Spot}
use Rattle.sheet.proofs.Complete.{sheet_reads}
use Rattle.sheet.proofs.FaultReads.{fault_reads}
use Rattle.sheet.proofs.Once.{one_outcome}
use Rattle.desk.specs.Commands.{Command, IsCommandLine}
use Rattle.desk.specs.CommandChecks.{command_checks}
use Rattle.desk.specs.Inputs.{IsAnswer, too_long, no_sheet, session}
use Rattle.desk.specs.Replies.{reply_text}
use Rattle.desk.specs.Sessions.{Does, Replies, Session, told_at, issue_told, closing_told, alteration_told, issues, issues_none, closes, closes_not, alters, alters_not, leaves, refuses, does, ends, stops, goes_on}
use Rattle.desk.specs.declared.reply.Reply.{Reply}
use Rattle.desk.specs.declared.reply.Reply.TheVariants as says
use Rattle.desk.proofs.Said.{said_unbroken, one_command}

module _ (c : Transitions) (some : 0 < c.states) where
  -- ---- what comes of a command

  -- the reply that an answer of the contract comes to
  answer_told : Spot → Answer → Reply
  answer_told spot (Closed year) = closing_told year
  answer_told spot (Altered alteration) = alteration_told alteration
  answer_told spot (IsWorth reserve) = says.Left reserve reserve
  answer_told spot (LiesWithin span) = says.Left (pos 0) (pos 0)
  answer_told spot (Written column) = says.Left (pos 0) (pos 0)
  answer_told spot (Refused fault) = told_at spot fault
  answer_told spot (NotWritten fault column) = told_at spot fault

  by_entry : (spot : Spot) (l : Ledger) (q : Request) (a b : Answer) (m n : Ledger) → Entry c l q a m → Entry c l q b n → (answer_told spot a ≡ answer_told spot b) × (Some m ≡ Some n)
  by_entry spot l q a b m n e h = let same = entry_once c some l q a b m n e h in (ap (answer_told spot) same.0, ap Some same.1)

  left_once : (l : Ledger) (k h : Leaving) (b d : Books) → Ends c l true (Left k b) → Ends c l true (Left h d) → k ≡ h
  left_once l k h b d e f = ap leaving_at (ends_once c l true (Left k b) (Left h d) e f)

  does_once : (spot : Spot) (kept : Option Ledger) (command : Command) (r q : Reply) (t u : Option Ledger) → Does c spot kept command r t → Does c spot kept command q u → (r ≡ q) × (t ≡ u)
  unfolding answer_told
  does_once spot _ _ _ _ _ _ (issues {s = sum} {k = term} {g = paying_years} {d = deposit} {p = premium} a x) (issues {p = other} b y) =
      let same : premium ≡ other = priced_once c (endows sum term paying_years) 0 (pos deposit) premium other x y in (
        ap (λ p. issue_told c (terms_at (endows sum term paying_years) 0 (pos deposit) p)) same,
        ap (λ p. Some (issued c (terms_at (endows sum term paying_years) 0 (pos deposit) p))) same,
      )
  does_once spot _ _ _ _ _ _ (issues {s = sum} {k = term} {g = paying_years} {d = deposit} {p = premium} a x) (issues_none {fault = fault} n) = absurd (issued_or_not c (endows sum term paying_years) 0 (pos deposit) premium fault a x n)
  does_once spot _ _ _ _ _ _ (issues_none {s = sum} {k = term} {g = paying_years} {d = deposit} {fault = fault} n) (issues {p = premium} a x) = absurd (issued_or_not c (endows sum term paying_years) 0 (pos deposit) premium fault a x n)
  does_once spot _ _ _ _ _ _ (issues_none {s = sum} {k = term} {g = paying_years} {d = deposit} {fault = fault} n) (issues_none {fault = other} m) = (ap (told_at spot) (not_issued_once c (endows sum term paying_years) 0 (pos deposit) fault other n m), refl)
  does_once spot _ _ _ _ _ _ (closes e) (closes h) = by_entry spot _ _ _ _ _ _ e h
  does_once spot _ _ _ _ _ _ (closes e) (closes_not h) = by_entry spot _ _ _ _ _ _ e h
  does_once spot _ _ _ _ _ _ (closes_not e) (closes h) = by_entry spot _ _ _ _ _ _ e h
  does_once spot _ _ _ _ _ _ (closes_not e) (closes_not h) = by_entry spot _ _ _ _ _ _ e h
  does_once spot _ _ _ _ _ _ (alters e) (alters h) = by_entry spot _ _ _ _ _ _ e h
  does_once spot _ _ _ _ _ _ (alters e) (alters_not h) = by_entry spot _ _ _ _ _ _ e h
  does_once spot _ _ _ _ _ _ (alters_not e) (alters h) = by_entry spot _ _ _ _ _ _ e h
  does_once spot _ _ _ _ _ _ (alters_not e) (alters_not h) = by_entry spot _ _ _ _ _ _ e h
  does_once spot _ _ _ _ _ _ (leaves {l} {k} {books} e) (leaves {k = h} {books = d} f) = (ap (λ x. says.Left x.paid x.result) (left_once l k h books d e f), refl)

  -- ---- the reply to a line

  no_fault : (stands : _) (spot : Spot) (line : List ℕ) (fault : Fault) (command : Command) → first_broken (command_checks c.years stands spot line) ≡ Some fault → IsCommandLine c.years stands line command → ⊥
  no_fault stands spot line fault command broken said =
      let none : first_broken (command_checks c.years stands spot line) ≡ None = said_unbroken c.years stands spot line command said in
      let clash : Some fault ≡ None = sym broken ∙ none in
      grind (arith, clash)

  one_fault : (fault other : Fault) → Some fault ≡ Some other → fault ≡ other
  one_fault fault other e = cc

  replies_once : (kept : Option Ledger) (spot : Spot) (line : List ℕ) (r q : Reply) (t u : Option Ledger) → Replies c kept spot line r t → Replies c kept spot line q u → (r ≡ q) × (t ≡ u)
  replies_once kept spot line _ _ _ _ (refuses {fault} x) (refuses {fault = other} y) = (ap (told_at spot) (one_fault fault other (sym x ∙ y)), refl)
  replies_once kept spot line _ _ _ _ (refuses {fault} x) (does {command} said done) = absurd (no_fault (is_some kept) spot line fault command x said)
  replies_once kept spot line _ _ _ _ (does {command} said done) (refuses {fault} x) = absurd (no_fault (is_some kept) spot line fault command x said)
  replies_once kept spot line r q t u (does {command} said done) (does {command = other} also did) =
      let same : command ≡ other = one_command c.years line command other said.allowed also.allowed said.text also.text in
      does_once spot kept command r q t u done (subst (λ x. Does c spot kept x q u) (sym same) did)

  -- ---- line by line

  session_once : (kept : Option Ledger) (spot : Spot) (bytes a b : List ℕ) → Session c kept spot bytes a → Session c kept spot bytes b → a ≡ b
  session_once kept spot _ _ _ ends ends = refl
  session_once kept spot _ _ _ ends (stops more late) = absurd (more refl)
  session_once kept spot _ _ _ ends (goes_on in_time replied on) = absurd (grind (arith, in_time))
  session_once kept spot _ _ _ (stops more late) ends = absurd (more refl)
  session_once kept spot bytes _ _ (stops more late) (stops _ _) = refl
  session_once kept spot bytes _ _ (stops more late) (goes_on in_time replied on) = absurd (grind (arith, late, in_time))
  session_once kept spot _ _ _ (goes_on in_time replied on) ends = absurd (grind (arith, in_time))
  session_once kept spot bytes _ _ (goes_on in_time replied on) (stops more late) = absurd (grind (arith, late, in_time))
  session_once kept spot bytes _ _ (goes_on {then = t} {more = text} {reply = r} in_time replied on) (goes_on {then = u} {more = other} {reply = q} also told further) =
      let here = replies_once kept spot (first_line bytes) r q t u replied told in
      let later = session_once t (spot_after spot bytes) (after_line bytes) text other on (subst (λ k. Session c k (spot_after spot bytes) (after_line bytes) other) (sym here.1) further) in
      ap₂ (λ reply more. reply_text reply ++ more) here.0 later

-- ---- the whole input

one_reading : (bytes : List ℕ) (a b : Outcome) → Reads most nothing_yet start bytes a → Reads most nothing_yet start bytes b → a ≡ b
one_reading bytes a b x y = one_outcome most nothing_yet start bytes a b x y

same_refusal : (fault other : Fault) → refused fault ≡ refused other → fault ≡ other
same_refusal fault other e = cc

same_sheet : (s t : Sheet) (rest more : List ℕ) → ends_at s rest ≡ ends_at t more → (s ≡ t) × (rest ≡ more)
same_sheet s t rest more e = (cc, cc)

not_both : (s : Sheet) (rest : List ℕ) (fault : Fault) → ends_at s rest ≡ refused fault → ⊥
not_both s rest fault e = grind (arith, e)

pub one_answer : (bytes a b : List ℕ) → IsAnswer bytes a → IsAnswer bytes b → a ≡ b
one_answer bytes _ _ (too_long x) (too_long y) = refl
one_answer bytes _ _ (too_long x) (no_sheet y _) = absurd (omega (arith, x, y))
one_answer bytes _ _ (too_long x) (session y _ _) = absurd (omega (arith, x, y))
one_answer bytes _ _ (no_sheet y _) (too_long x) = absurd (omega (arith, x, y))
one_answer bytes _ _ (no_sheet {fault} _ broken) (no_sheet {fault = other} _ also) =
    ap (λ f. reply_text (told_at start f)) (same_refusal fault other (one_reading bytes (refused fault) (refused other) (fault_reads most bytes fault broken) (fault_reads most bytes other also)))
one_answer bytes _ _ (no_sheet {fault} _ broken) (session {s} {rest} _ sheet _) = absurd (not_both s rest fault (one_reading bytes (ends_at s rest) (refused fault) (sheet_reads most bytes s rest sheet) (fault_reads most bytes fault broken)))
one_answer bytes _ _ (session y _ _) (too_long x) = absurd (omega (arith, x, y))
one_answer bytes _ _ (session {s} {rest} _ sheet _) (no_sheet {fault} _ broken) = absurd (not_both s rest fault (one_reading bytes (ends_at s rest) (refused fault) (sheet_reads most bytes s rest sheet) (fault_reads most bytes fault broken)))
one_answer bytes a b (session {s} {rest} _ sheet answers) (session {s = t} {rest = more} _ also others) =
    let same = same_sheet s t rest more (one_reading bytes (ends_at s rest) (ends_at t more) (sheet_reads most bytes s rest sheet) (sheet_reads most bytes t more also)) in
    let here : Session (basis_of s) None (spot_past (text_of (basis_of s))) rest b =
    subst (λ r. Session (basis_of s) None (spot_past (text_of (basis_of s))) r b) (sym same.1) (subst (λ x. Session (basis_of x) None (spot_past (text_of (basis_of x))) more b) (sym same.0) others) in
    session_once (basis_of s) (omega (arith, sheet.lawful.size.least_states)) None (spot_past (text_of (basis_of s))) rest a b answers here
