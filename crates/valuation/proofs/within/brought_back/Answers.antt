use Rattle.std.proofs.Common.{rules, ◌≡◌, ◌≤◌, ℤ, pos, ◌+ℤ◌, ◌*ℤ◌, w64, FitsSigned, to_z, of_z, sym, ap, ap₂, ◌∙◌, mul-le-mul_right, arith}
use Rattle.std.proofs.lemmas.Int.{ints}
use Rattle.units.specs.Near.{Within}
use Rattle.units.specs.Ranges.{million, limit}
use Rattle.units.proofs.Distances.{within_more, within_add, within_times}
use Rattle.valuation.specs.Means.{rounded_discount, mean}
use Rattle.valuation.proofs.Agreement.{add_is, discount_is}
use Rattle.valuation.proofs.Rounded.{rounded_discount_within}
use Rattle.valuation.proofs.within.brought_back.Goals as goal

pub returns : goal.returns
returns c =
    let figure : ℤ = c.args.figure in
    let flow : ℤ = c.args.flow in
    let whole : ℤ = pos c.args.factor *ℤ figure in
    let small : Within 4590000000000 figure = c.requires.figure in
    let paid : Within limit flow = c.requires.flow in
    let low : c.args.factor ≤ million = c.requires.factor in
    let most : Within 4590000000000000000 whole = within_more (omega (arith, mul-le-mul_right 4590000000000 low)) (within_times c.args.factor small) in
    let fits : FitsSigned w64 whole = grind (arith, ints, most.low, most.high) in
    let share : to_z w64 (of_z w64 c.from.result) ≡ c.from.result = search rules in
    let kept : to_z w64 (of_z w64 figure) ≡ figure = search rules in
    let exact : to_z w64 (of_z w64 whole) ≡ whole = search (rules, fits) in
    let product : to_z w64 (of_z w64 (to_z w64 (of_z w64 c.from.result) *ℤ to_z w64 (of_z w64 figure))) ≡ whole =
    ap₂ (λ x y. to_z w64 (of_z w64 (x *ℤ y))) (share ∙ c.from.ensures) kept ∙ exact in
    let discounted : c.round_near_discount.result ≡ rounded_discount whole = c.round_near_discount.ensures ∙ ap rounded_discount product in
    let near : Within 4590000000000 c.round_near_discount.result = rw discounted (rounded_discount_within 4590000000000 whole most) in
    let sum : Within 4600000000000 (c.round_near_discount.result +ℤ flow) = within_add near paid in
    let present : to_z w64 (of_z w64 c.round_near_discount.result) ≡ c.round_near_discount.result = search rules in
    let flows : to_z w64 (of_z w64 flow) ≡ flow = search rules in
    let room : FitsSigned w64 (c.round_near_discount.result +ℤ flow) = grind (arith, ints, sum.low, sum.high) in
    let plain : to_z w64 (of_z w64 (to_z w64 (of_z w64 c.round_near_discount.result) +ℤ to_z w64 (of_z w64 flow))) ≡ c.round_near_discount.result +ℤ flow =
    ap₂ (λ x y. to_z w64 (of_z w64 (x +ℤ y))) present flows ∙ search (rules, room) in
    plain
    ∙ sym (add_is _ _ (within_more (omega arith) near) (within_more (omega arith) paid))
    ∙ ap (λ x. mean.add x flow) (discounted ∙ sym (discount_is c.args.factor figure low (within_more (omega arith) small)))
