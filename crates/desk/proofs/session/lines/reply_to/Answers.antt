use Rattle.std.proofs.Common.{◌≡◌, rules, subst, Some, None}
use Rattle.basis.specs.TransitionTables.{transition_table}
use Rattle.sheet.specs.Checks.{first_broken}
use Rattle.sheet.specs.Fields.{bytes_of}
use Rattle.sheet.specs.Lines.{parts}
use Rattle.desk.specs.CommandChecks.{line_checks}
use Rattle.desk.specs.Commands.{IsCommandText}
use Rattle.desk.specs.Serving.{Comes}
use Rattle.desk.specs.Sessions.{told_at}
use Rattle.desk.proofs.Serving.{replies_by, replies_refused}
use Rattle.desk.proofs.session.lines.reply_to.Goals as goal

pub returns-in-Ok : goal.returns-in-Ok
returns-in-Ok c kept keeps =
    let years = (transition_table c.args.basis.now).years in
    let said = c.in-Ok.ensures.answer in
    let s = said.1.1 in
    let done = c.serve.ensures said.1.0 kept s.meaning keeps in
    let unbroken : first_broken (line_checks years c.args.line.spot (parts (bytes_of c.args.line))) ≡ None = subst (λ n. first_broken (line_checks n c.args.line.spot (parts (bytes_of c.args.line))) ≡ None) c.years.ensures said.0 in
    let is : IsCommandText years (bytes_of c.args.line) said.1.0 = subst (λ n. IsCommandText n (bytes_of c.args.line) said.1.0) c.years.ensures (record { text = s.text; allowed = s.allowed }) in
    (done.0, replies_by c.args.basis.now c.args.line.spot (bytes_of c.args.line) kept said.1.0 c.serve.result.1 done.0 unbroken is (subst (λ a. Comes c.args.basis.now a kept said.1.0 c.serve.result.1 done.0) c.spot-spot.ensures done.1), done.2)

pub returns-in-Err : goal.returns-in-Err
returns-in-Err c kept keeps =
    let reply : c.refusal.result ≡ told_at c.args.line.spot c.in-Err.fault = Prim.search rules in
    let broken : first_broken (line_checks (transition_table c.args.basis.now).years c.args.line.spot (parts (bytes_of c.args.line))) ≡ Some c.in-Err.fault = subst (λ n. first_broken (line_checks n c.args.line.spot (parts (bytes_of c.args.line))) ≡ Some c.in-Err.fault) c.years.ensures c.in-Err.ensures.answer in
    (kept, replies_refused c.args.basis.now c.args.line.spot (bytes_of c.args.line) kept c.in-Err.fault c.refusal.result reply broken, keeps)
