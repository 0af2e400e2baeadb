use Rattle.std.proofs.Common.{◌-◌, ◌≤◌, rules, List, ℕ, length, drop, take, subst}
use Rattle.std.specs.Io.KnownBytes.{Appends}
use Rattle.streams.proofs.Chains.{appends_then, written_on}
use Rattle.streams.proofs.output.write_whole.Goals as goal

pub loop-preserved : goal.loop-preserved
loop-preserved g c =
    let contents = g.W.Write.contents in
    let so_far = c.loop.invariant in
    let bytes = c.args.bytes.now in
    let count = c.in_ok-count.count in
    let part : List ℕ = take (length bytes - c.loop.written) (drop c.loop.written bytes) in
    let wrote : Appends (contents c.loop.writer) (contents c.write_once.new.writer) (take count part) = Prim.search rules in
    let few : count ≤ length part = Prim.search rules in
    let both = written_on c.loop.written count bytes so_far.few few in
    record {
      few = both.0;
      appended = subst (Appends (contents c.args.writer.now) (contents c.write_once.new.writer)) both.1 (appends_then _ _ _ _ _ so_far.appended wrote);
    }
