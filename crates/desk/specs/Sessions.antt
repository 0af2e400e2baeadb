-- What the desk answers to the commands after a sheet. Assumes nothing.
use Rattle.std.specs.Prelude.{◌≡◌, ◌≢◌, ℕ, true, false, List, [], ◌++◌, pos, ℤ, Option, Some, None, is_some}
use Rattle.units.specs.declared.fault.Fault.{Fault}
use Rattle.units.specs.declared.fault.Place.{Place}
use Rattle.units.specs.declared.fault.Place.TheVariants.{Text, Entry as AtEntry}
use Rattle.basis.specs.Transitions.{Transitions}
use Rattle.plan.specs.Endowments.{endows}
use Rattle.contract.specs.Cases.{terms_at}
use Rattle.contract.specs.Ledgers.{Close, Alter, Closed, Altered, Refused, Entry}
use Rattle.contract.specs.Runs.{Ends, Left}
use Rattle.contract.specs.Standings.{Ledger, Books, Terms, AreTerms, IsPriced, NotIssued, begun, issued, opening_result, reserve_at}
use Rattle.contract.specs.Steps.{ClosedYear, Alteration, Leaving}
use Rattle.sheet.specs.Checks.{first_broken, ends_in_time}
use Rattle.sheet.specs.Lines.{first_line, after_line, spot_after}
use Rattle.sheet.specs.declared.spot.Spot.{Spot}
use Rattle.desk.specs.CommandChecks.{command_checks}
use Rattle.desk.specs.Commands.{Command, IsCommandLine, issue, close, alter, leave}
use Rattle.desk.specs.Replies.{reply_text}
use Rattle.desk.specs.declared.reply.Reply.{Reply}
use Rattle.desk.specs.declared.reply.Reply.TheVariants as says

-- a fault in the text is told where it stands, and one of the contract at its line
abbrev pub place_told : ℕ → Spot → Place → Reply
place_told number spot (Text line offset) = says.Refused number line offset
place_told number spot (AtEntry year state) = says.Refused number spot.line spot.offset

abbrev pub told_at : Spot → Fault → Reply
told_at spot fault = place_told fault.number spot fault.place

-- what a command issues at a premium: an endowment, in state 0 and on a deposit
abbrev pub terms_issued : ℕ → ℕ → ℕ → ℕ → ℕ → Terms
terms_issued sum term paying_years deposit premium = terms_at (endows sum term paying_years) 0 (pos deposit) premium

-- what is told of a year that was closed, and of an alteration
abbrev pub closing_told : ClosedYear → Reply
closing_told k = says.Closed k.number k.year k.interest_result k.risk_result k.reserve

abbrev pub alteration_told : Alteration → Reply
alteration_told k = says.Altered k.number (pos k.premium) k.reserve k.result

module _ (c : Transitions) where
  -- what is told of a contract that was issued
  abbrev pub issue_told : Terms → Reply
  issue_told x = says.Issued (pos x.premium) (reserve_at c (begun x)) (opening_result c x)

  -- what comes of a command in the line at a spot, where the ledger of a contract is kept or none
  -- is
  pub data Does (spot : Spot) : Option Ledger → Command → Reply → Option Ledger → Type 0 where
    issues :
        {s k g d p : ℕ} →
        AreTerms c (terms_issued s k g d p) → IsPriced c (terms_issued s k g d p) →
        Does spot None (issue s k g d) (issue_told (terms_issued s k g d p))
        (Some (issued c (terms_issued s k g d p)))
    issues_none :
        {s k g d : ℕ} {fault : Fault} → NotIssued c (endows s k g) 0 (pos d) fault →
        Does spot None (issue s k g d) (told_at spot fault) None
    closes :
        {l m : Ledger} {state : ℕ} {rate : ℤ} {year : ClosedYear} →
        Entry c l (Close state rate) (Closed year) m →
        Does spot (Some l) (close state rate) (closing_told year) (Some m)
    closes_not :
        {l m : Ledger} {state : ℕ} {rate : ℤ} {fault : Fault} →
        Entry c l (Close state rate) (Refused fault) m →
        Does spot (Some l) (close state rate) (told_at spot fault) (Some m)
    alters :
        {l m : Ledger} {s k g : ℕ} {alteration : Alteration} →
        Entry c l (Alter (endows s k g)) (Altered alteration) m →
        Does spot (Some l) (alter s k g) (alteration_told alteration) (Some m)
    alters_not :
        {l m : Ledger} {s k g : ℕ} {fault : Fault} →
        Entry c l (Alter (endows s k g)) (Refused fault) m →
        Does spot (Some l) (alter s k g) (told_at spot fault) (Some m)
    leaves :
        {l : Ledger} {k : Leaving} {books : Books} → Ends c l true (Left k books) →
        Does spot (Some l) leave (says.Left k.paid k.result) None

  -- the reply to a line that begins at a spot: it is an allowed command, or breaks a rule
  pub data Replies (kept : Option Ledger) (spot : Spot) (line : List ℕ) : Reply → Option Ledger → Type 0 where
    refuses : {fault : Fault} → first_broken (command_checks c.years (is_some kept) spot line) ≡ Some fault → Replies kept spot line (told_at spot fault) kept
    does : {command : Command} {reply : Reply} {then : Option Ledger} → IsCommandLine c.years (is_some kept) line command → Does spot kept command reply then → Replies kept spot line reply then

  -- the answers to what is left of the input from a spot on, line by line
  pub data Session : Option Ledger → Spot → List ℕ → List ℕ → Type 0 where
    ends : {kept : Option Ledger} {spot : Spot} → Session kept spot [] []
    stops : {kept : Option Ledger} {spot : Spot} {bytes : List ℕ} → bytes ≢ [] → ends_in_time bytes ≡ false → Session kept spot bytes (reply_text (says.Refused 2 spot.line spot.offset))
    goes_on : {kept then : Option Ledger} {spot : Spot} {bytes more : List ℕ} {reply : Reply} → ends_in_time bytes ≡ true → Replies kept spot (first_line bytes) reply then →
        Session then (spot_after spot bytes) (after_line bytes) more → Session kept spot bytes (reply_text reply ++ more)
