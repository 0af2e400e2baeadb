-- The row of a state that nobody leaves. Assumes nothing.
use Rattle.std.proofs.Common.{◌≡◌, ℕ, take, sym, ◌∙◌, arith, map}
use Rattle.std.specs.List.{range_with_len}
use Rattle.std.proofs.lemmas.List.FromFn.{take-map-range_with_len}
use Rattle.units.proofs.Places.{map_counting_same}
use Rattle.basis.specs.Transitions.{Transitions, Lawful, row}

pub noughts_are_row : (c : Transitions) → Lawful c → (i t : ℕ) → ((j : ℕ) → c.share i j t ≡ 0) → take c.states (map (λ j. 0) (range_with_len 0 8)) ≡ row c i t
noughts_are_row c law i t none =
    take-map-range_with_len (λ j. 0) 0 8 c.states law.most_states
    ∙ map_counting_same (λ j. 0) (λ j. c.share i j t) 0 c.states (λ j to. sym (none j))
