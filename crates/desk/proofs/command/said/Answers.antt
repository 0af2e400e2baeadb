use Rattle.std.proofs.Common.{refl, rules, Ok}
use Rattle.sheet.specs.SplitLines.{IsLine}
use Rattle.sheet.specs.declared.line.Line.TheVariants.{Issue, Close, Alter, Leave}
use Rattle.desk.proofs.Made.{leave_made}
use Rattle.desk.proofs.Said.{made_says}
use Rattle.desk.proofs.command.said.Goals as goal

pub returns-in-Issue : goal.returns-in-Issue
returns-in-Issue c =
    let is : IsLine c.args.line (Issue c.in-Issue.sum c.in-Issue.term c.in-Issue.paying_years c.in-Issue.deposit) = search rules in
    made_says c.args.years c.args.line (Issue c.in-Issue.sum c.in-Issue.term c.in-Issue.paying_years c.in-Issue.deposit) c.spot-spot.result c.issue.result c.spot-spot.ensures is c.issue.ensures

pub returns-in-Close : goal.returns-in-Close
returns-in-Close c =
    let is : IsLine c.args.line (Close c.in-Close.state c.in-Close.rate) = search rules in
    made_says c.args.years c.args.line (Close c.in-Close.state c.in-Close.rate) c.spot-spot.result c.close.result c.spot-spot.ensures is (c.close.ensures c.args.years)

pub returns-in-Alter : goal.returns-in-Alter
returns-in-Alter c =
    let is : IsLine c.args.line (Alter c.in-Alter.sum c.in-Alter.term c.in-Alter.paying_years) = search rules in
    made_says c.args.years c.args.line (Alter c.in-Alter.sum c.in-Alter.term c.in-Alter.paying_years) c.spot-spot.result c.alter.result c.spot-spot.ensures is c.alter.ensures

pub returns-in-Leave : goal.returns-in-Leave
returns-in-Leave c =
    let is : IsLine c.args.line Leave = search rules in
    made_says c.args.years c.args.line Leave c.args.line.spot (Ok _) refl is (leave_made c.args.years c.args.line.spot)
