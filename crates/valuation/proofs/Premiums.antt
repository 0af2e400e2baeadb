-- The search for the least premium. Assumes nothing.
use Rattle.std.proofs.Common.{◌≡◌, ℕ, ◌+◌, ◌<◌, ◌≤◌, ℤ, ◌<ℤ◌, false, arith}
use borrow.Author.Differences.{ints}
use Rattle.std.specs.Int.Signed.{le_z}
use Rattle.units.specs.Ranges.{limit}
use Rattle.basis.specs.Transitions.{Transitions}
use Rattle.plan.specs.Payments.{Payments}
use Rattle.valuation.specs.Premiums.{Suffices, LeastPremium}
use Rattle.valuation.proofs.Plain.{reserve_never_raised}

-- where a premium does not suffice, no lower one does
pub none_up_to : (c : Transitions) (p : Payments) (i t : ℕ) (bound : ℤ) (premium : ℕ) → (Suffices c p i t bound premium → ⊥) → (lower : ℕ) → lower < premium + 1 → Suffices c p i t bound lower → ⊥
none_up_to c p i t bound premium not lower l suffices =
    let falls = (reserve_never_raised c p lower premium (omega (arith, l)) i t).0 in
    not (omega (arith, ints, falls, suffices))

-- what a test says that fails
pub not_at_most : (a b : ℤ) → le_z a b ≡ false → b <ℤ a
not_at_most a b above = grind (arith, ints)

-- above a premium that does not suffice, the next is the least that may
pub least_above : (c : Transitions) (p : Payments) (i t : ℕ) (bound : ℤ) (low high : ℕ) → (Suffices c p i t bound low → ⊥) → high ≤ low + 1 → high ≤ limit → Suffices c p i t bound high → LeastPremium c p i t bound high
least_above c p i t bound low high not next in_range suffices = record {
  in_range = in_range;
  suffices = suffices;
  no_lower = λ lower l. none_up_to c p i t bound low not lower (omega (arith, l, next));
}
