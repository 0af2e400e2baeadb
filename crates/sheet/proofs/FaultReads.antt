-- A refused sheet is read to its fault. Assumes nothing.
use Rattle.std.proofs.Common.{◌≡◌, ℕ, ◌+◌, ◌-◌, ◌*◌, ◌<◌, ◌≤◌, inl, inr, List, length, get_or, sym, ap₂, subst, arith}
use Rattle.std.proofs.lemmas.Bool.{cases_lt}
use Rattle.std.proofs.lemmas.Grind.{same_number_lists}
use Rattle.std.proofs.lemmas.List.{get_or_past}
use Rattle.units.specs.declared.fault.Fault.{Fault}
use Rattle.sheet.specs.Faults.{Begun, SaysSoFar, Refuses, text_so_far, spot_past}
use Rattle.sheet.specs.Lines.{start}
use Rattle.sheet.specs.Reading.{Outcome, Reads, breaks, refused, nothing_yet}
use Rattle.sheet.specs.declared.columns.Columns.{Columns}
use Rattle.sheet.specs.Sheets.{Sheet}
use Rattle.sheet.proofs.Once.{one_outcome}
use Rattle.sheet.proofs.Onward.{Agrees}
use Rattle.sheet.proofs.Walks.{Walks, past, walk_none}
use Rattle.sheet.proofs.Arrives.{readable_of_begun, arrives}

-- of two lists that agree below a place the one that ends above nought is no longer
no_longer : (xs ys : List ℕ) (q : ℕ) → length ys ≤ q → ((k : ℕ) → k < q → get_or xs k 0 ≡ get_or ys k 0) → ((k : ℕ) → length ys ≡ k + 1 → 1 ≤ get_or ys k 0) → length ys ≤ length xs
no_longer xs ys q low same last =
    elim (cases_lt (length xs) (length ys)) [
      | inl l ↦
          let k : ℕ = length ys - 1 in
          let top : 1 ≤ get_or ys k 0 = last k (omega arith) in
          let none : get_or xs k 0 ≡ 0 = get_or_past xs k 0 (omega arith) in
          let e : get_or xs k 0 ≡ get_or ys k 0 = same k (omega arith) in
          omega arith
      | inr l ↦ l
    ]

so_far_shares : (columns : Columns) (s : Sheet) (xs : List ℕ) → Begun columns s → Agrees s (length s.factors * s.states * s.states) xs → xs ≡ s.shares
so_far_shares columns s xs begun agrees =
    let top = length s.factors * s.states * s.states in
    let up = no_longer xs s.shares top begun.places agrees.same begun.last in
    let down = no_longer s.shares xs top agrees.low (λ k l. sym (agrees.same k l)) agrees.last in
    let places = begun.places in
    same_number_lists xs s.shares (omega arith) (λ k l. agrees.same k (omega arith))

-- what has been read leads to the sheet so far
so_far_walk : (columns : Columns) (s : Sheet) (before : List ℕ) → SaysSoFar columns s before → Walks columns nothing_yet before s
so_far_walk columns s before (inl none) = rw (none.0, none.1) (walk_none columns nothing_yet)
so_far_walk columns s before (inr (begun, text)) =
    let way = arrives columns s (readable_of_begun columns s begun) in
    let shares = so_far_shares columns s way.shares begun way.agrees in
    rw text (subst (λ xs. Walks columns nothing_yet (text_so_far s) (record { states = s.states; years = s.years; factors = s.factors; shares = xs })) shares way.walks)

-- a refused sheet is read to the fault that it is refused with
pub fault_reads : (columns : Columns) (bytes : List ℕ) (fault : Fault) → Refuses columns bytes fault → Reads columns nothing_yet start bytes (refused fault)
fault_reads columns bytes fault refuses =
    let before = refuses.before in
    let walks = so_far_walk columns refuses.sheet before refuses.kept in
    let here : spot_past before ≡ past start before = ap₂ (λ line offset. record { line = line; offset = offset }) (omega arith) (omega arith) in
    subst (λ b. Reads columns nothing_yet start b (refused fault)) (sym refuses.split)
    (walks.on start refuses.after (refused fault)
    (subst (λ spot. Reads columns refuses.sheet spot refuses.after (refused fault)) here
    (breaks refuses.sheet (spot_past before) refuses.after fault refuses.broken)))

-- so a refused sheet comes to nothing else
pub only_fault : (columns : Columns) (bytes : List ℕ) (fault : Fault) (outcome : Outcome) → Refuses columns bytes fault → Reads columns nothing_yet start bytes outcome → outcome ≡ refused fault
only_fault columns bytes fault outcome refuses reads = one_outcome columns nothing_yet start bytes outcome (refused fault) reads (fault_reads columns bytes fault refuses)
