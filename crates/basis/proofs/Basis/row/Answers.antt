use Rattle.std.proofs.Common.{◌≡◌, ℕ, ◌<◌, length, take, map, sym, ap, ap₂, ◌∙◌, ◌++◌, ◌∷◌, [], arith}
use Rattle.std.specs.List.{range_with_len}
use Rattle.std.proofs.lemmas.List.{take_more_set, take_all, length-take-le}
use Rattle.std.proofs.lemmas.List.FromFn.{map-range_with_len_more}
use Rattle.basis.proofs.Basis.row.Goals as goal

pub loop-to-preserved : goal.loop-to-preserved
loop-to-preserved g c =
    let share : ℕ → ℕ = λ j. (g.Self.Basis.meaning c.args.self.now).share c.args.from j c.args.year in
    let inside : c.loop-to.to < length c.loop-to.shares = omega (arith, c.loop-to-test.true, c.loop-to.auto.shares) in
    take_more_set c.loop-to.shares c.loop-to.to c.share.result inside
    ∙ ap₂ (λ xs x. xs ++ x ∷ []) c.loop-to.invariant c.share.ensures
    ∙ sym (map-range_with_len_more share 0 c.loop-to.to c.loop-to.to (omega arith))

pub returns : goal.returns
returns g c =
    let share : ℕ → ℕ = λ j. (g.Self.Basis.meaning c.args.self.now).share c.args.from j c.args.year in
    let most = (g.met.Self.Basis.lawful c.args.self.now).most_states in
    let states : length (take c.states.result c.args.room.now) ≡ c.states.result = length-take-le c.states.result c.args.room.now (omega (arith, most, c.states.ensures, c.told-room)) in
    let done : c.loop-to.to ≡ (g.Self.Basis.meaning c.args.self.now).states = omega (arith, c.loop-to-test.false, c.loop-to.auto.to-end, states, c.states.ensures) in
    sym (take_all c.loop-to.to c.loop-to.shares (omega (arith, c.loop-to-test.false, c.loop-to.auto.shares)))
    ∙ c.loop-to.invariant ∙ ap (λ n. map share (range_with_len 0 n)) done
