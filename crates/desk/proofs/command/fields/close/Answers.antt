use Rattle.std.proofs.Common.{◌≡◌, ◌≤◌, w64, to_z, of_z, rules}
use Rattle.sheet.specs.Fields.{bytes_of}
use Rattle.sheet.specs.Numerals.{Writes, WritesSigned}
use Rattle.desk.specs.Commands.{close}
use Rattle.desk.proofs.Made.{close_form_broken, close_state_broken, close_unbroken, close_made}
use Rattle.desk.proofs.command.fields.close.Goals as goal

pub returns-in_err-rate : goal.returns-in_err-rate
returns-in_err-rate c = λ years.
    let j : Writes (bytes_of c.args.state) c.in_ok-j.j = search rules in
    let none = close_form_broken years c.args.spot (bytes_of c.args.state) (bytes_of c.args.rate) c.in_ok-j.j j (search rules) in
    search rules

pub returns-in_err-state : goal.returns-in_err-state
returns-in_err-state c = λ years.
    let j : Writes (bytes_of c.args.state) c.in_ok-j.j = search rules in
    let r : WritesSigned (bytes_of c.args.rate) c.in_ok-rate.rate = search rules in
    let none = close_state_broken years c.args.spot (bytes_of c.args.state) (bytes_of c.args.rate) c.in_ok-j.j c.in_ok-rate.rate j r (search rules) in
    search rules

pub returns : goal.returns
returns c = λ years.
    let j : Writes (bytes_of c.args.state) c.in_ok-state.state = search rules in
    let r : WritesSigned (bytes_of c.args.rate) c.in_ok-rate.rate = search rules in
    let most : c.in_ok-state.state ≤ 7 = search rules in
    let same : to_z w64 (of_z w64 c.in_ok-rate.rate) ≡ c.in_ok-rate.rate = search rules in (
      close_unbroken years c.args.spot (bytes_of c.args.state) (bytes_of c.args.rate) c.in_ok-state.state c.in_ok-rate.rate j r most,
      (close c.in_ok-state.state c.in_ok-rate.rate, rw same (close_made years (bytes_of c.args.state) (bytes_of c.args.rate) c.in_ok-state.state c.in_ok-rate.rate j r most)),
    )
