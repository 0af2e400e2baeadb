use Rattle.std.proofs.Common.{◌≡◌, ◌≢◌, rules, [], length, Option, false, sym, ◌∙◌, arith}
use Rattle.std.proofs.lemmas.Bool.Decides.{nat_tests}
use Rattle.std.proofs.lemmas.List.{nil_from_length}
use Rattle.std.specs.String.{string_bytes}
use Rattle.basis.specs.TransitionTables.{transition_table}
use Rattle.contract.specs.Standings.{Ledger}
use Rattle.sheet.specs.Checks.{ends_in_time}
use Rattle.sheet.specs.Fields.{bytes_of}
use Rattle.sheet.specs.FirstLines.{IsFirstLine}
use Rattle.desk.specs.Serving.{Keeps}
use Rattle.desk.specs.Sessions.{Replies, told_at}
use Rattle.desk.specs.declared.reply.Reply.TheVariants as says
use Rattle.desk.proofs.Rooms.{room_left}
use Rattle.desk.proofs.Sittings.{further, ended, stopped, shorter_rest}
use Rattle.desk.proofs.session.lines.answer_commands.Goals as goal

pub returns-in-Err-clause-answers : goal.returns-in-Err-clause-answers
returns-in-Err-clause-answers c =
    let text = c.loop-held.text in
    let some : bytes_of text ≢ [] = Prim.search rules in
    let late : ends_in_time (bytes_of text) ≡ false = Prim.search rules in
    let reply : told_at c.spot.result c.in-Err.fault ≡ says.Refused 2 text.spot.line text.spot.offset = Prim.search rules in
    stopped c.args.basis.now c.args.rest.spot (bytes_of c.args.rest) (string_bytes c.args.out.now) c.loop-held.held text (string_bytes c.loop-held.out) c.loop-held.invariant.ahead some late (told_at c.spot.result c.in-Err.fault) (string_bytes c.write_refusal.new.out) reply c.write_refusal.ensures.written

pub loop-held-preserved : goal.loop-held-preserved
loop-held-preserved c =
    let text = c.loop-held.text in
    let so_far = c.loop-held.invariant.ahead in
    let first : IsFirstLine text c.in-Ok.parts.0 c.in-Ok.parts.1 = Prim.search rules in
    let replied : (then : Option Ledger) × Replies (transition_table c.args.basis.now) so_far.kept c.in-Ok.parts.0.spot (bytes_of c.in-Ok.parts.0) c.reply_to-reply.result.1 then × Keeps c.args.basis.now c.reply_to-reply.result.0 then =
    c.reply_to-reply.ensures so_far.kept so_far.keeps in
    let wrote = c.write_reply.ensures in
    let shorter = shorter_rest text c.in-Ok.parts.0 c.in-Ok.parts.1 first in
    record {
      ahead = further c.args.basis.now c.args.rest.spot (bytes_of c.args.rest) (string_bytes c.args.out.now) c.loop-held.held text (string_bytes c.loop-held.out) so_far c.reply_to-reply.result.0 c.in-Ok.parts.0 c.in-Ok.parts.1 c.reply_to-reply.result.1 _ first replied wrote.written;
      room = room_left (length (bytes_of text)) (length (bytes_of c.in-Ok.parts.1)) c.loop-held.invariant.room wrote shorter;
      grown = (let grown = c.loop-held.invariant.grown in let kept = wrote.kept in omega (arith, grown, kept));
    }

pub returns-clause-answers : goal.returns-clause-answers
returns-clause-answers c =
    let short : length c.bytes.result.now ≡ 0 = grind (arith, nat_tests) in
    let empty : bytes_of c.loop-held.text ≡ [] = sym c.bytes.ensures ∙ nil_from_length c.bytes.result.now short in
    ended c.args.basis.now c.args.rest.spot (bytes_of c.args.rest) (string_bytes c.args.out.now) c.loop-held.held c.loop-held.text (string_bytes c.loop-held.out) c.loop-held.invariant.ahead empty
