-- The rules by their numbers: which part of the engine checks each, and its words. Assumes nothing.
use Rattle.std.specs.Prelude.{◌≡◌, ℕ, cond, List, codes, ◌==◌, Result, MatchResult}
use Rattle.units.specs.declared.fault.Layer.{Layer}
use Rattle.units.specs.declared.fault.Layer.TheVariants.{Field, Sheet, Basis, Plan, Contract}
use Rattle.units.specs.declared.rule.Rule.{Rule}
use Rattle.units.specs.declared.rule.Rule.TheVariants.{Input, LineFeed, Form, Number, Range, Room, Order, Row, Size, Factor, Share, Payment, Standing, StartState, Deposit, YearLeft, EndState, Rate, PossibleMove, Premium, NumberLeft, Course}
use Rattle.units.specs.declared.rule.UnknownRule.{UnknownRule}

abbrev pub rule_number : Rule → ℕ
rule_number Input = 1
rule_number LineFeed = 2
rule_number Form = 3
rule_number Number = 4
rule_number Range = 5
rule_number Room = 6
rule_number Order = 7
rule_number Row = 8
rule_number Size = 9
rule_number Factor = 10
rule_number Share = 11
rule_number Payment = 12
rule_number Standing = 13
rule_number StartState = 14
rule_number Deposit = 15
rule_number YearLeft = 16
rule_number EndState = 17
rule_number Rate = 18
rule_number PossibleMove = 19
rule_number Premium = 20
rule_number NumberLeft = 21
rule_number Course = 22

-- the part of the engine that checks a rule
abbrev pub rule_layer : Rule → Layer
rule_layer Input = Sheet
rule_layer LineFeed = Sheet
rule_layer Form = Sheet
rule_layer Number = Field
rule_layer Range = Field
rule_layer Room = Sheet
rule_layer Order = Sheet
rule_layer Row = Sheet
rule_layer Size = Basis
rule_layer Factor = Basis
rule_layer Share = Basis
rule_layer Payment = Plan
rule_layer Standing = Sheet
rule_layer StartState = Contract
rule_layer Deposit = Contract
rule_layer YearLeft = Contract
rule_layer EndState = Contract
rule_layer Rate = Contract
rule_layer PossibleMove = Contract
rule_layer Premium = Contract
rule_layer NumberLeft = Contract
rule_layer Course = Contract

-- the rule that a number stands for
abbrev pub rule_text : ℕ → List ℕ
rule_text number =
    cond (number == 1) (codes "the input has more than 60000 bytes")
    (cond (number == 2) (codes "a line has no line feed within 40 bytes")
    (cond (number == 3) (codes "a letter may not stand here or the number of fields differs")
    (cond (number == 4) (codes "a field is not 1 to 11 digits without leading nought")
    (cond (number == 5) (codes "a number is outside its range")
    (cond (number == 6) (codes "the columns are shorter than the sheet needs")
    (cond (number == 7) (codes "a year or a pair of states is out of order")
    (cond (number == 8) (codes "a row misses the million")
    (cond (number == 9) (codes "the number of states or years or the length of a column is unfit")
    (cond (number == 10) (codes "a factor is outside 1 to a million")
    (cond (number == 11) (codes "a share is outside 0 to a million or a row misses the million")
    (cond (number == 12) (codes "a year, a state or the length of a column of a plan is unfit or an entry is out of range")
    (cond (number == 13) (codes "a command needs a contract and none stands or a contract stands already")
    (cond (number == 14) (codes "the start state is not in the basis")
    (cond (number == 15) (codes "the deposit is outside 0 to the limit")
    (cond (number == 16) (codes "no year is left to close")
    (cond (number == 17) (codes "the end state is not in the basis")
    (cond (number == 18) (codes "the rate is outside -500000 to 500000")
    (cond (number == 19) (codes "the share of the move is nought")
    (cond (number == 20) (codes "no premium from 0 to the limit will do")
    (cond (number == 21) (codes "number 9999 has been given")
    (cond (number == 22) (codes "the column for the course is too short")
    (codes "a rule is broken"))))))))))))))))))))))

-- the rule of a number, or that number back where it stands for no rule
abbrev pub Decodes : ℕ → Result Rule UnknownRule → Type 0
Decodes number result = MatchResult result (λ rule. rule_number rule ≡ number) (λ unknown. (unknown.0 ≡ number) × ((rule : Rule) → rule_number rule ≡ number → ⊥))
