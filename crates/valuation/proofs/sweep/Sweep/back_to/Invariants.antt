use Rattle.std.proofs.Common.{◌≡◌, ◌≤◌, ◌+◌, ◌-◌, ◌*◌, take, drop, length}
use Rattle.valuation.specs.Sweeps.{figures_in, rows_from_year}
use Rattle.valuation.proofs.sweep.Sweep.back_to.Given as goal

-- the figures are those of `year`, and where rows are kept, those from `year` on stand in their places
abbrev pub invariant-loop-year : goal.invariant-loop-year
invariant-loop-year g l =
    (take l.states l.figures ≡ figures_in l.self l.year)
    × (length l.rows ≡ (l.years + 1 - l.first) * l.states →
    drop ((l.year - l.first) * l.states) l.rows ≡ rows_from_year l.self l.year)
    × (l.first ≤ l.year)
