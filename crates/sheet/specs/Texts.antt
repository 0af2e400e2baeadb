-- The text of a basis. Assumes nothing.
use Rattle.std.specs.Prelude.{ℕ, List, [], ◌∷◌, ◌++◌, cond, ◌==◌, decimal, flat_map}
use Rattle.std.specs.List.{range_with_len}
use Rattle.basis.specs.Transitions.{Transitions, moves}

-- a letter, and each number in decimal after a semicolon
abbrev pub line_of : ℕ → List ℕ → List ℕ
line_of letter numbers = letter ∷ flat_map (λ n. 59 ∷ decimal n) numbers

-- the line with its line feed
abbrev pub line_text : ℕ → List ℕ → List ℕ
line_text letter numbers = line_of letter numbers ++ 10 ∷ []

-- `T;t;i;j;p` for a move from i to j with a share p above nought, and nothing for a share of nought
abbrev pub move_text : ℕ → ℕ → ℕ → ℕ → List ℕ
move_text t i j p = cond (p == 0) [] (line_text 84 (t ∷ i ∷ j ∷ p ∷ []))

-- the moves from state i in year t by rising state, and those of the year by rising state that they begin in
abbrev pub row_text : Transitions → ℕ → ℕ → List ℕ
row_text c t i = flat_map (λ j. move_text t i j (c.share i j t)) (moves c)

abbrev pub moves_text : Transitions → ℕ → List ℕ
moves_text c t = flat_map (row_text c t) (moves c)

-- `D;t;v` with the factor v of year t, and the moves of the year
abbrev pub year_text : Transitions → ℕ → List ℕ
year_text c t = line_text 68 (t ∷ c.factor t ∷ []) ++ moves_text c t

-- the years below n
abbrev pub years_text : Transitions → ℕ → List ℕ
years_text c n = flat_map (year_text c) (range_with_len 0 n)

-- `B;m;n`, the years, and `E`
abbrev pub text_of : Transitions → List ℕ
text_of c = line_text 66 (c.states ∷ c.years ∷ []) ++ (years_text c c.years ++ line_text 69 [])
