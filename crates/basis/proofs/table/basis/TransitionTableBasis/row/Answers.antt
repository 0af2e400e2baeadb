use Rattle.std.proofs.Common.{◌≡◌, ℕ, ◌+◌, ◌-◌, ◌*◌, ◌<◌, ◌≤◌, length, take, drop, map, pos, vec_items, vec_len, ap, ◌∙◌, mul-le-mul_right, add-mul, arith}
use Rattle.std.specs.List.{range_with_len, slice_index}
use Rattle.std.proofs.Math.Arith.{digits_lt}
use Rattle.std.proofs.lemmas.Bool.Decides.{nat_tests}
use Rattle.std.proofs.lemmas.List.{length-map}
use Rattle.units.proofs.Places.{map_counting_same, part_by_places}
use Rattle.basis.specs.TransitionColumns.{row_number}
use Rattle.basis.specs.TransitionTables.{transition_table}
use Rattle.basis.specs.TableLaw.{transition_table_lawful}
use Rattle.basis.proofs.Noughts.{noughts_are_row}
use Rattle.basis.proofs.table.basis.TransitionTableBasis.row.Goals as goal
use Rattle.basis.proofs.table.basis.TransitionTableBasis.row.Goals.{else-year-len-via-then-year-len+else-from-self, else-year-len-via-else-year-len}

pub returns-then-from-self : goal.returns-then-from-self
returns-then-from-self c =
    let s = c.args.self.now in
    let m = s.states in
    let shares = vec_items s.shares in
    let start : ℕ = row_number m c.args.from c.args.year * m in
    let year : c.args.year < vec_len s.factors = omega (arith, c.if-year-len.true, c.len.ensures) in
    let below : row_number m c.args.from c.args.year < vec_len s.factors * m = digits_lt year c.if-from-self.true in
    let inside : start + 0 + m ≤ length shares = omega (arith, mul-le-mul_right m below, add-mul (row_number m c.args.from c.args.year) 1 m, s.fit.size.share_places, length-map shares pos) in
    ap (λ xs. take (start + m - start) (drop start xs)) c.deref.ensures.value
    ∙ ap (λ n. take n (drop start shares)) (let whole : start + m - start ≡ m = omega arith in whole)
    ∙ ap (λ n. take m (drop n shares)) (let first : start ≡ start + 0 = omega arith in first)
    ∙ part_by_places shares start 0 m 0 inside
    ∙ map_counting_same (λ j. slice_index shares (start + j)) (λ j. (transition_table s).share c.args.from j c.args.year) 0 m (λ j to. grind (arith, nat_tests))

pub returns : goal.returns
returns c =
    let s = c.args.self.now in
    let law = transition_table_lawful s in
    noughts_are_row (transition_table s) law c.args.from c.args.year (λ j. elim c.else-year-len.branch [
      | else-year-len-via-then-year-len+else-from-self w ↦ law.share_from_outside c.args.from j c.args.year w.if-from-self.false
      | else-year-len-via-else-year-len w ↦ law.share_after c.args.from j c.args.year (omega (arith, w.if-year-len.false, c.len.ensures))
    ])
