-- Amounts in a column, as they are read. Assumes nothing.
use Rattle.std.proofs.Common.{◌≡◌, ℕ, zero, suc, List, [], ◌∷◌, get_or, map, refl}
use Rattle.units.specs.declared.amount.Amount.{Amount}
use Rattle.plan.specs.PaymentColumns.{entry, amount_entry}

pub entry_is : (amounts : List Amount) (p : ℕ) → get_or (map (λ amount. amount.ticks) amounts) p 0 ≡ entry (map amount_entry amounts) p
entry_is [] p = refl
entry_is (amount ∷ amounts) zero = refl
entry_is (amount ∷ amounts) (suc p) = entry_is amounts p
