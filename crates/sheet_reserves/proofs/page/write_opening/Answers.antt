use Rattle.std.proofs.Common.{◌≡◌, ◌++◌, rules, codes, decimal, pos}
use Rattle.std.proofs.lemmas.Result.{on_ok_weaker}
use Rattle.std.specs.String.{string_bytes}
use Rattle.units.specs.Francs.{francs}
use Rattle.sheet_reserves.proofs.Cells.{five_behind}
use Rattle.sheet_reserves.proofs.page.write_opening.Goals as goal

pub returns : goal.returns
returns c =
    let first : string_bytes c.write_text.new.out ≡ string_bytes c.args.out.now ++ codes "Endowment of 1000 francs over " = Prim.search rules in
    let second : string_bytes c.write_text-2.new.out ≡ string_bytes c.write_text.new.out ++ decimal c.args.years = Prim.search rules in
    let third : string_bytes c.write_text-3.new.out ≡ string_bytes c.write_text-2.new.out ++ codes " years, yearly premium of " = Prim.search rules in
    let fourth : string_bytes c.write_text-4.new.out ≡ string_bytes c.write_text-3.new.out ++ francs (pos c.args.premium.ticks) = Prim.search rules in
    let before = string_bytes c.args.out.now in
    on_ok_weaker c.write_text-5.result (five_behind before (string_bytes c.write_text.new.out) (string_bytes c.write_text-2.new.out) (string_bytes c.write_text-3.new.out) (string_bytes c.write_text-4.new.out) (string_bytes c.write_text-5.new.out) (codes "Endowment of 1000 francs over ") (decimal c.args.years) (codes " years, yearly premium of ") (francs (pos c.args.premium.ticks)) (codes " francs\n\n") first second third fourth) c.write_text-5.ensures
