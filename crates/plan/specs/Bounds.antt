-- What each plan pays is in range, whatever value it has. Assumes nothing.
use Rattle.std.specs.Prelude.{ℕ, zero, suc, ◌≤◌, List, [], ◌∷◌, map, ℤ, pos, negsuc, ◌≤ℤ◌, unsigned_abs}
use Rattle.std.proofs.Common.{arith}
use Rattle.std.proofs.lemmas.Int.{ints}
use Rattle.std.proofs.lemmas.Bool.Decides.{nat_tests}
use Rattle.units.specs.Ranges.{limit}
use Rattle.units.specs.declared.amount.Amount.{Amount}
use Rattle.plan.specs.Payments.{InRange}
use Rattle.plan.specs.Annuities.{annuity}
use Rattle.plan.specs.Endowments.{endowment}
use Rattle.plan.specs.PaymentColumns.{entry, amount_entry}
use Rattle.plan.specs.PaymentTables.{payment_table}
use Rattle.plan.specs.declared.annuity.Annuity.{Annuity}
use Rattle.plan.specs.declared.endowment.Endowment.{Endowment}
use Rattle.plan.specs.declared.table.PaymentTable.{PaymentTable}

pub most_entry : (z : ℤ) (high : ℕ) → (pos 0) ≤ℤ z → z ≤ℤ (pos high) → unsigned_abs z ≤ high
most_entry (pos n) high low most = omega (arith, ints, most)
most_entry (negsuc n) high low most = absurd (omega (arith, ints, low))

-- an amount at any place of a column is within the limit, and past its end nothing is read
most_amount : (amounts : List Amount) (p : ℕ) → entry (map amount_entry amounts) p ≤ limit
most_amount [] p = omega arith
most_amount (amount ∷ amounts) zero = most_entry (amount_entry amount) limit (omega (arith, ints)) (omega (arith, ints, amount.range))
most_amount (amount ∷ amounts) (suc p) = most_amount amounts p

pub endowment_bounded : (s : Endowment) → InRange (endowment s)
endowment_bounded s = grind (arith, nat_tests)

pub annuity_bounded : (s : Annuity) → InRange (annuity s)
annuity_bounded s = grind (arith, nat_tests)

pub payment_table_bounded : (s : PaymentTable) → InRange (payment_table s)
payment_table_bounded s = grind (arith, nat_tests, most_amount)
