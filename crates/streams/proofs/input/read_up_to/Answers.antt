use Rattle.std.proofs.Common.{◌≡◌, ◌-◌, ◌≤◌, rules, length, take, sym, subst, arith}
use Rattle.std.specs.Io.KnownBytes.{Consumes}
use Rattle.streams.proofs.Chains.{consumes_then, length_read, read_on}
use Rattle.streams.proofs.input.read_up_to.Goals as goal

pub loop-preserved : goal.loop-preserved
loop-preserved g c =
    let remaining = g.R.Read.remaining in
    let so_far = c.loop.invariant in
    let count = c.in-Some.count in
    let came = c.read_once.new.buffer in
    let part : length came ≡ length c.loop.buffer - c.loop.filled = Prim.search rules in
    let read : Consumes (remaining c.loop.reader) (remaining c.read_once.new.reader) (take count came) = Prim.search rules in
    let few : count ≤ length came = Prim.search rules in
    let same = length_read c.loop.filled c.loop.buffer came so_far.few part in
    record {
      same = Prim.search (rules, same);
      few = omega (arith, few, same, part, so_far.few);
      consumed = subst (Consumes (remaining c.args.reader.now) (remaining c.read_once.new.reader)) (sym (read_on c.loop.filled _ c.loop.buffer came count so_far.few few)) (consumes_then _ _ _ _ _ so_far.consumed read);
    }
