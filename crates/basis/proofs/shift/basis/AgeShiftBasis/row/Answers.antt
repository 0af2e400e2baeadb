use Rattle.std.proofs.Common.{◌≡◌, ◌+◌, ◌-◌, ◌≤◌, take, map, ap, ◌∙◌, arith}
use Rattle.std.specs.List.{range_with_len}
use Rattle.basis.specs.Shifts.{first_year, shifted}
use Rattle.basis.specs.Later.{shifted_lawful}
use Rattle.basis.proofs.Noughts.{noughts_are_row}
use Rattle.basis.proofs.shift.basis.AgeShiftBasis.row.Goals as goal

pub returns-in-None : goal.returns-in-None
returns-in-None g c =
    let below = g.B.Basis.meaning c.args.self.now.below in
    let by = c.args.self.now.by in
    let law = shifted_lawful below by (g.met.B.Basis.lawful c.args.self.now.below) in
    let past : below.years - first_year below by ≤ c.args.year = omega (arith, c.in-None.ensures) in
    ap (λ n. take n (map (λ j. 0) (range_with_len 0 8))) c.states.ensures
    ∙ noughts_are_row (shifted below by) law c.args.from c.args.year (λ j. law.share_after c.args.from j c.args.year past)
