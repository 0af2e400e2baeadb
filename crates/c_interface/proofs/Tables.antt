-- What is read of a table is what was handed in. Assumes nothing.
use Rattle.std.proofs.Common.{◌≡◌, ℕ, List, [], ◌∷◌, map, ℤ, pos, vec_items, refl, sym, ap, ◌∙◌, unsigned_abs}
use Rattle.basis.specs.TransitionTables as transition_tables
use Rattle.basis.specs.declared.table.TransitionTable.{TransitionTable}
use Rattle.plan.specs.PaymentTables as payment_tables
use Rattle.plan.specs.PaymentColumns.{tabled}
use Rattle.plan.specs.declared.table.PaymentTable.{PaymentTable}

back : (xs : List ℕ) → map unsigned_abs (map pos xs) ≡ xs
back [] = refl
back (x ∷ xs) = ap (λ ys. x ∷ ys) (back xs)

kept : (xs : List ℕ) (column : List ℤ) → map pos xs ≡ column → xs ≡ map unsigned_abs column
kept xs column so = sym (back xs) ∙ ap (map unsigned_abs) so

pub basis_is : (s : TransitionTable) (m : ℕ) (factors shares : List ℤ) → transition_tables.Holds s m factors shares → transition_tables.transition_table s ≡ transition_tables.tabled m (map unsigned_abs factors) (map unsigned_abs shares)
basis_is s m factors shares holds =
    ap (λ i. transition_tables.tabled i (vec_items s.factors) (vec_items s.shares)) holds.states
    ∙ ap (λ xs. transition_tables.tabled m xs (vec_items s.shares)) (kept (vec_items s.factors) factors holds.discount)
    ∙ ap (λ xs. transition_tables.tabled m (map unsigned_abs factors) xs) (kept (vec_items s.shares) shares holds.moves)

pub plan_is : (s : PaymentTable) (k : ℕ) (benefits marks moves : List ℤ) → payment_tables.Holds s k benefits marks moves → payment_tables.payment_table s ≡ tabled k benefits marks moves
plan_is s k benefits marks moves holds =
    ap (λ i. tabled i (payment_tables.benefit_column s) (payment_tables.mark_column s) (payment_tables.move_column s)) holds.years
    ∙ ap (λ xs. tabled k xs (payment_tables.mark_column s) (payment_tables.move_column s)) holds.amounts
    ∙ ap (λ xs. tabled k benefits xs (payment_tables.move_column s)) holds.signs
    ∙ ap (λ xs. tabled k benefits marks xs) holds.transfers
