use Rattle.std.proofs.Common.{◌≡◌, ◌≤◌, length, take}
use Rattle.std.specs.Io.KnownBytes.{Consumes}
use Rattle.streams.proofs.input.read_up_to.Given as goal

abbrev pub invariant-loop : goal.invariant-loop
invariant-loop g l =
    let remaining = g.R.Read.remaining in
    record {
      same : length l.buffer ≡ length l.fn.buffer;
      few : l.filled ≤ length l.buffer;
      consumed : Consumes (remaining l.fn.reader) (remaining l.reader) (take l.filled l.buffer);
    }
