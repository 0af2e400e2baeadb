-- The contract that the desk holds, the ledger that is kept of it, and what comes of a command.
-- Assumes nothing.
use Rattle.std.specs.Prelude.{◌≡◌, ⊤, Option, Some, None, is_some}
use Rattle.units.specs.Faults.{text_fault}
use Rattle.units.specs.declared.fault.Layer.TheVariants.{Sheet as Whole}
use Rattle.basis.specs.declared.Basis.{Ghosts as BasisGhosts}
use Rattle.basis.specs.declared.table.TransitionTable.{TransitionTable}
use Rattle.basis.specs.TransitionTables.{transition_table}
use Rattle.plan.specs.declared.Plan.{Ghosts as PlanGhosts}
use Rattle.plan.specs.declared.endowment.Endowment.{Endowment}
use Rattle.contract.specs.ContractStates.{standing}
use Rattle.contract.specs.Standings.{Ledger}
use Rattle.contract.specs.declared.contract.Contract.{Contract}
use Rattle.sheet.specs.declared.spot.Spot.{Spot}
use Rattle.desk.specs.Commands.{Command, needs_contract}
use Rattle.desk.specs.Sessions.{Does, told_at}
use Rattle.desk.specs.declared.reply.Reply.{Reply}

-- a command does what it asks for; or it does not find a contract, or none, as it needs, and 13 is
-- told at its line
pub data Comes (basis : TransitionTable) (spot : Spot) (kept : Option Ledger) (c : Command) :
    Reply → Option Ledger → Type 0 where
  done :
      {reply : Reply} {then : Option Ledger} →
      Does (transition_table basis) spot kept c reply then → Comes basis spot kept c reply then
  misplaced :
      (needs_contract c ≡ is_some kept → ⊥) →
      Comes basis spot kept c (told_at spot (text_fault 13 Whole spot.line spot.offset)) kept

module _ {b : BasisGhosts TransitionTable} {p : PlanGhosts Endowment} where
  -- a contract is held on the basis exactly if a ledger is kept, and they stand alike
  abbrev pub Keeps :
      TransitionTable → Option (Contract TransitionTable Endowment b p) → Option Ledger → Type 0
  Keeps basis None None = ⊤
  Keeps basis None (Some l) = ⊥
  Keeps basis (Some k) None = ⊥
  Keeps basis (Some k) (Some l) = (k.basis.now ≡ basis) × (standing k ≡ l.stands)

  -- the contract that is held then and the reply are what comes of a command
  abbrev pub CarriesOut :
      TransitionTable → Spot → Option Ledger → Command →
      Option (Contract TransitionTable Endowment b p) × Reply → Type 0
  CarriesOut basis spot kept c outcome =
      (then : Option Ledger) × Comes basis spot kept c outcome.1 then × Keeps basis outcome.0 then
