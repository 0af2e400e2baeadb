use Rattle.std.proofs.Common.{arith}
use Rattle.std.proofs.lemmas.Bool.Decides.{nat_tests}
use Rattle.sheet.proofs.Places.{none_left}
use Rattle.sheet.proofs.line.split.with_fields.Goals as goal

pub returns-in_default : goal.returns-in_default
returns-in_default c =
    let none = none_left c.args.rest in
    grind (arith, nat_tests)

pub returns-in_ok-states-in-B : goal.returns-in_ok-states-in-B
returns-in_ok-states-in-B c =
    let fields = c.in_ok-states-in-B.ensures in
    rw c.in_ok-rest-in-B.was (omega arith, fields.bytes, fields.places)

pub returns-in_ok-year-in-D : goal.returns-in_ok-year-in-D
returns-in_ok-year-in-D c =
    let fields = c.in_ok-year-in-D.ensures in
    rw c.in_ok-rest-in-D.was (omega arith, fields.bytes, fields.places)

pub returns-in_ok-year-in-T : goal.returns-in_ok-year-in-T
returns-in_ok-year-in-T c =
    let fields = c.in_ok-year-in-T.ensures in
    rw c.in_ok-rest-in-T.was (omega arith, fields.bytes, fields.places)

pub returns-in_ok-sum-in-Q : goal.returns-in_ok-sum-in-Q
returns-in_ok-sum-in-Q c =
    let fields = c.in_ok-sum-in-Q.ensures in
    rw c.in_ok-rest-in-Q.was (omega arith, fields.bytes, fields.places)

pub returns-in_ok-state-in-C : goal.returns-in_ok-state-in-C
returns-in_ok-state-in-C c =
    let fields = c.in_ok-state-in-C.ensures in
    rw c.in_ok-rest-in-C.was (omega arith, fields.bytes, fields.places)

pub returns-in_ok-sum-in-A : goal.returns-in_ok-sum-in-A
returns-in_ok-sum-in-A c =
    let fields = c.in_ok-sum-in-A.ensures in
    rw c.in_ok-rest-in-A.was (omega arith, fields.bytes, fields.places)
