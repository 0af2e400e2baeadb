-- Pairs of states in their order, and the places of their shares. Assumes nothing.
use Rattle.std.proofs.Common.{◌≡◌, ℕ, zero, suc, ◌+◌, ◌-◌, ◌*◌, ◌/◌, ◌%◌, ◌<◌, inl, inr, length, nat_le, ap, ◌∙◌, add-mul, div-add-mod', mod-lt, arith}
use Rattle.std.proofs.Math.Arith.{digits_lt}
use Rattle.std.proofs.lemmas.Bool.{cases_lt}
use Rattle.std.proofs.lemmas.Bool.Decides.{nat_tests}
use Rattle.basis.specs.TransitionColumns.{place}
use Rattle.sheet.specs.Checks.{comes_after, last_of, last_pair}
use Rattle.sheet.specs.Sheets.{Sheet}

-- a pair comes after the last of so many exactly if it is not among them
after_last : (m i j count : ℕ) → j < m → comes_after (last_of m count) (i, j) ≡ nat_le count (i * m + j)
after_last m i j zero inside = grind (arith, nat_tests)
after_last m i j (suc k) inside =
    let cut : k / m * m + k % m ≡ k = div-add-mod' k m in
    let below : k % m < m = mod-lt k (omega arith) in
    elim (cases_lt (k / m) i) [
      | inl l ↦
          let early : k / m * m + k % m < i * m = digits_lt l below in
          grind (arith, nat_tests)
      | inr l ↦ elim (cases_lt i (k / m)) [
        | inl g ↦
            let late : i * m + j < k / m * m = digits_lt g inside in
            grind (arith, nat_tests)
        | inr g ↦
            let same : k / m ≡ i = omega arith in
            let row : k / m * m ≡ i * m = ap (λ r. r * m) same in
            grind (arith, nat_tests)
      ]
    ]

taken_off : (l s x : ℕ) → nat_le (l - s) x ≡ nat_le l (s + x)
taken_off l s x = grind (arith, nat_tests)

-- so a pair comes after that of the line before exactly if its place comes after the shares so far
pub after_shares : (s : Sheet) (i j t : ℕ) → t + 1 ≡ length s.factors → j < s.states → comes_after (last_pair s) (i, j) ≡ nat_le (length s.shares) (place s.states i j t)
after_shares s i j t last inside =
    let m = s.states in
    let year : length s.factors - 1 ≡ t = omega arith in
    let start : (length s.factors - 1) * s.states * s.states ≡ t * s.states * s.states = ap (λ y. y * s.states * s.states) year in
    let at : (length s.factors - 1) * s.states * s.states + (i * s.states + j) ≡ place s.states i j t = omega (arith, start, add-mul (t * m) i m) in
    after_last m i j (length s.shares - (length s.factors - 1) * m * m) inside ∙ taken_off (length s.shares) ((length s.factors - 1) * m * m) (i * m + j) ∙ ap (nat_le (length s.shares)) at
