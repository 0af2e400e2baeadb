use Rattle.std.proofs.Common.{Ok, refl, sym, ◌∙◌, arith}
use Rattle.sheet.proofs.Feeds.{none_early, feed_early, line_before, line_after, line_length}
use Rattle.sheet.proofs.OwnBytes.{cut_stands}
use Rattle.sheet.proofs.part.Part.first_line.Goals as goal

pub returns-in_default-clause-answer : goal.returns-in_default-clause-answer
returns-in_default-clause-answer c = (none_early c.min.result c.args.self.bytes.now c.min.ensures (grind arith), c.fault.ensures)

pub returns-clause-answer : goal.returns-clause-answer
returns-clause-answer c =
    let feed = sym c.in-Some.is ∙ c.first_place.ensures in
    let long = line_length c.min.result c.in-Some.end c.args.self.bytes.now c.min.ensures feed in
    record {
      in_time = feed_early c.min.result c.in-Some.end c.args.self.bytes.now c.min.ensures feed;
      line_bytes = line_before c.min.result c.in-Some.end c.args.self.bytes.now c.min.ensures feed;
      line_spot = refl;
      rest_bytes = line_after c.min.result c.in-Some.end c.args.self.bytes.now c.min.ensures feed;
      rest_spot = grind arith;
    }

pub returns-clause-own_bytes : goal.returns-clause-own_bytes
unfolding returns-clause-answer
returns-clause-own_bytes c = λ input at. cut_stands input c.args.self (Ok (_, _)) (returns-clause-answer c) at
