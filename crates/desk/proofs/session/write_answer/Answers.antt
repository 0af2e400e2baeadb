use Rattle.std.proofs.Common.{◌≡◌, ◌++◌, rules, ◌<◌, ◌≤◌, length, refl, ap, ◌∙◌}
use Rattle.std.specs.String.{string_bytes}
use Rattle.sheet.specs.Lines.{start}
use Rattle.desk.specs.Replies.{reply_text}
use Rattle.desk.specs.Sessions.{told_at}
use Rattle.desk.specs.declared.reply.Reply.TheVariants as says
use Rattle.desk.proofs.Whole.{long_answered, refusal_answered, session_answered}
use Rattle.desk.proofs.session.write_answer.Goals as goal

pub returns-then-bytes-gt-MOST_BYTES-clause-answer : goal.returns-then-bytes-gt-MOST_BYTES-clause-answer
returns-then-bytes-gt-MOST_BYTES-clause-answer c =
    let long : 60000 < length c.args.bytes.now = Prim.search rules in
    let told : told_at start c.fault.result ≡ says.Refused 1 1 0 = ap (told_at start) c.fault.ensures in
    long_answered c.args.bytes.now (string_bytes c.clear.new.self) (string_bytes c.write_refusal.new.out) c.clear.ensures.bytes long (c.write_refusal.ensures.written ∙ ap (λ r. string_bytes c.clear.new.self ++ reply_text r) told)

pub returns-in-Ok-clause-answer : goal.returns-in-Ok-clause-answer
returns-in-Ok-clause-answer c =
    let short : length c.args.bytes.now ≤ 60000 = Prim.search rules in
    let taken = c.in-Ok.ensures.answer in
    let answered = c.answer_commands.ensures.answers in
    session_answered c.args.bytes.now (string_bytes c.clear.new.self) (string_bytes c.answer_commands.new.out) c.clear.ensures.bytes short c.read_into.new.table c.in-Ok.rest taken.0 answered.0 taken.1 answered.1 answered.2

pub returns-in-Err-clause-answer : goal.returns-in-Err-clause-answer
returns-in-Err-clause-answer c =
    let short : length c.args.bytes.now ≤ 60000 = Prim.search rules in
    let refused = c.in-Err.ensures.answer in
    refusal_answered c.args.bytes.now (string_bytes c.clear.new.self) (string_bytes c.write_refusal-in-Err.new.out) c.clear.ensures.bytes short c.in-Err.fault (told_at start c.in-Err.fault) refused.0 refl c.write_refusal-in-Err.ensures.written
