use Rattle.std.proofs.Common.{◌≡◌, get_or, pos, arith, rules, SFits, w64}
use Rattle.std.proofs.lemmas.Grind.{common_steps}
use Rattle.std.proofs.lemmas.Int.{to_z-of_z}
use Rattle.plan.proofs.table.make.refill.Goals as goal

pub loop-entry-preserved : goal.loop-entry-preserved
loop-entry-preserved g c = record {
  items = λ value is.
      let fits : SFits w64 (get_or c.args.column.now c.loop-entry.entry-index (pos 0)) = search rules in
      let entry : value c.read.result ≡ get_or c.args.column.now c.loop-entry.entry-index (pos 0) = is _ _ c.loop-entry-test.true (simp to_z-of_z at c.read.ensures) in
      let kept = c.loop-entry.invariant.items value is in
      grind (arith, common_steps);
  places = search rules;
  room = search rules;
}
