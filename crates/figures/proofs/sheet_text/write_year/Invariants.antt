use Rattle.std.proofs.Common.{◌≡◌, ◌++◌, string_bytes, flat_map}
use Rattle.std.specs.List.{range_with_len}
use Rattle.sheet.specs.Texts.{row_text}
use Rattle.figures.proofs.sheet_text.write_year.Given as goal

abbrev pub invariant-loop-from : goal.invariant-loop-from
invariant-loop-from g l =
    string_bytes l.text ≡ string_bytes l.initial.text
    ++ flat_map (row_text (g.B.Basis.meaning l.basis) l.year) (range_with_len 0 l.from)
