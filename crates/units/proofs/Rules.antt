-- The words of a number that stands for no rule. Assumes nothing.
use Rattle.std.proofs.Common.{◌≡◌, ℕ, codes, arith}
use Rattle.std.proofs.lemmas.Bool.Decides.{nat_tests}
use Rattle.units.specs.Rules.{rule_number, rule_text}
use Rattle.units.specs.declared.rule.Rule.{Rule}
use Rattle.units.specs.declared.rule.Rule.TheVariants.{Input, LineFeed, Form, Number, Range, Room, Order, Row, Size, Factor, Share, Payment, Standing, StartState, Deposit, YearLeft, EndState, Rate, PossibleMove, Premium, NumberLeft, Course}

pub words_of_no_rule : (number : ℕ) → ((rule : Rule) → rule_number rule ≡ number → ⊥) → rule_text number ≡ codes "a rule is broken"
words_of_no_rule number none =
    let input = none Input in
    let line_feed = none LineFeed in
    let form = none Form in
    let digits = none Number in
    let range = none Range in
    let room = none Room in
    let order = none Order in
    let row = none Row in
    let size = none Size in
    let factor = none Factor in
    let share = none Share in
    let payment = none Payment in
    let standing = none Standing in
    let start_state = none StartState in
    let deposit = none Deposit in
    let year_left = none YearLeft in
    let end_state = none EndState in
    let rate = none Rate in
    let possible_move = none PossibleMove in
    let premium = none Premium in
    let number_left = none NumberLeft in
    let course = none Course in
    grind (arith, nat_tests)
