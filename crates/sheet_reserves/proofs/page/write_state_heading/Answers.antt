use Rattle.std.proofs.Common.{◌≡◌, ◌++◌, rules, codes, decimal, ap, ◌∙◌}
use Rattle.std.proofs.lemmas.Result.{on_ok_weaker}
use Rattle.std.specs.String.{string_bytes}
use Rattle.sheet_reserves.specs.Pages.{at_right}
use Rattle.sheet_reserves.proofs.Cells.{behind}
use Rattle.sheet_reserves.proofs.page.write_state_heading.Goals as goal

pub returns : goal.returns
returns c =
    let before = string_bytes c.args.out.now in
    let between = string_bytes c.write_at_right.new.out in
    let title : between ≡ before ++ at_right 11 (codes "state ") = c.in_ok-write_at_right.ensures in
    let number : c.as_str.result.now ≡ decimal c.args.state = Prim.search rules in
    on_ok_weaker c.write_text.result (λ last. behind before (at_right 11 (codes "state ")) (decimal c.args.state) title (last ∙ ap (λ xs. between ++ xs) number)) c.write_text.ensures
