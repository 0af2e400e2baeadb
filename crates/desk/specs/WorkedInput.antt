-- An input, and its answer; and replies, and their lines. Assumes nothing.
use Rattle.std.specs.Prelude.{List, codes, ℕ}
use Rattle.basis.specs.Transitions.{AgreeEverywhere}
use Rattle.valuation.specs.WorkedCase.{worked_basis, WorkedFigures}
use Rattle.sheet.specs.Sheets.{basis_of}
use Rattle.sheet.specs.WorkedSheet.{worked_sheet}
use Rattle.desk.specs.Inputs.{IsAnswer}
use Rattle.desk.specs.WorkedReplies.{WorkedReplies}

-- a sheet of two states and two years, and the commands on a contract from its issue until it is
-- left
abbrev pub worked_input : List ℕ
worked_input = codes "B;2;2\nD;0;900000\nT;0;0;0;900000\nT;0;0;1;100000\nT;0;1;1;1000000\nD;1;900000\nT;1;0;0;800000\nT;1;0;1;200000\nT;1;1;1;1000000\nE\nQ;1000000;2;2;0\nC;0;120000\nC;1;-10000\nC;1;0\nL\n"

abbrev pub worked_answer : List ℕ
worked_answer = codes "issue;452487;-1;1\nclose;1;0;4022;55249;447513\nclose;2;1;-109000;0;0\nrefused;16;14;160\nleave;0;0\n"

-- it is answered so, and the basis of its sheet is that of the worked life table, with the same
-- figures; and replies of every kind have the lines that can be read by eye
pub record WorkedInput : Type 0 where
  pub answer : IsAnswer worked_input worked_answer
  pub one_basis : AgreeEverywhere worked_basis (basis_of worked_sheet)
  pub figures : WorkedFigures (basis_of worked_sheet)
  pub replies : WorkedReplies
