use Rattle.std.proofs.Common.{◌≡◌, ◌++◌, string_bytes, flat_map}
use Rattle.std.specs.List.{range_with_len}
use Rattle.sheet.specs.Texts.{year_text}
use Rattle.figures.proofs.sheet_text.sheet_of.Given as goal

abbrev pub invariant-loop-year : goal.invariant-loop-year
invariant-loop-year g l =
    string_bytes l.text ≡ string_bytes l.initial.text
    ++ flat_map (year_text (g.B.Basis.meaning l.basis)) (range_with_len 0 l.year)
