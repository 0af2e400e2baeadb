use Rattle.std.proofs.Common.{◌≡◌, ℕ, ◌+◌, ◌-◌, ◌*◌, ◌<◌, ◌≤◌, length, take, drop, map, get_or, vec_items, sym, ap, ◌∙◌, arith}
use Rattle.std.proofs.lemmas.Bool.Decides.{nat_tests}
use Rattle.std.proofs.lemmas.List.{length-map, take-map, drop-map}
use Rattle.units.proofs.Places.{map_counting_same, part_by_places}
use Rattle.units.specs.declared.amount.Amount.{Amount}
use Rattle.plan.specs.PaymentColumns.{place, amount_entry}
use Rattle.plan.specs.PaymentTables.{payment_table}
use Rattle.plan.proofs.Moves.{entry_is}
use Rattle.plan.proofs.table.plan.PaymentTablePlan.move_benefits.Goals as goal

pub returns-in-Some : goal.returns-in-Some
returns-in-Some c =
    let s = c.args.self.now in
    let ticks : Amount → ℕ = λ amount. amount.ticks in
    let moves = vec_items s.moves in
    let start : ℕ = place c.args.from c.args.year * 8 in
    let here : c.in-Some.place * 8 ≡ start + 0 = omega (arith, c.in-Some.ensures) in
    let inside : start + 0 + 8 ≤ length (map ticks moves) = omega (arith, length-map moves ticks, length-map moves amount_entry, s.size.move_places, c.in-Some.ensures, c.if-year-self.true) in
    ap (λ xs. map ticks (take (c.in-Some.place * 8 + 8 - c.in-Some.place * 8) (drop (c.in-Some.place * 8) xs))) c.deref.ensures.value
    ∙ ap (λ n. map ticks (take n (drop (c.in-Some.place * 8) moves))) (let whole : c.in-Some.place * 8 + 8 - c.in-Some.place * 8 ≡ 8 = omega arith in whole)
    ∙ ap (λ n. map ticks (take 8 (drop n moves))) here
    ∙ sym (take-map ticks 8 (drop (start + 0) moves))
    ∙ ap (take 8) (sym (drop-map ticks (start + 0) moves))
    ∙ part_by_places (map ticks moves) start 0 8 0 inside
    ∙ map_counting_same (λ j. get_or (map ticks moves) (start + j) 0) (λ j. (payment_table s).move_benefit c.args.from j c.args.year) 0 8 (λ j to. entry_is moves (start + j) ∙ grind (arith, nat_tests, c.in-Some.ensures))
