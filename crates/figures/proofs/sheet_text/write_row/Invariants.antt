use Rattle.std.proofs.Common.{◌≡◌, ◌++◌, string_bytes, flat_map}
use Rattle.std.specs.List.{range_with_len}
use Rattle.sheet.specs.Texts.{move_text}
use Rattle.figures.proofs.sheet_text.write_row.Given as goal

abbrev pub invariant-loop-to : goal.invariant-loop-to
invariant-loop-to g l =
    string_bytes l.text ≡ string_bytes l.initial.text
    ++ flat_map (λ j. move_text l.year l.from j ((g.B.Basis.meaning l.basis).share l.from j l.year))
    (range_with_len 0 l.to)
