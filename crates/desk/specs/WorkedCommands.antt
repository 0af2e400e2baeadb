-- Commands, and their text. Assumes nothing.
use Rattle.std.specs.Prelude.{ℕ, List, [], ◌∷◌, ◌++◌, codes, pos, negsuc, flat_map}
use Rattle.desk.specs.Commands.{Command, command_text, issue, close, alter, leave}

abbrev pub worked_commands : List Command
worked_commands = issue 1000000 2 2 0 ∷ close 0 (pos 120000) ∷ close 1 (negsuc 9999) ∷ alter 500000 1 0 ∷ leave ∷ []

-- their lines
abbrev pub lines_of : List Command → List ℕ
lines_of cs = flat_map (λ c. command_text c ++ 10 ∷ []) cs

abbrev pub worked_lines : List ℕ
worked_lines = codes "Q;1000000;2;2;0\nC;0;120000\nC;1;-10000\nA;500000;1;0\nL\n"
