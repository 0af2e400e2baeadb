use Rattle.std.proofs.Common.{◌≡◌, string_bytes, arith}
use Rattle.sheet.specs.Texts.{year_text}
use Rattle.figures.proofs.SheetLines.{one_more, whole}
use Rattle.figures.proofs.sheet_text.sheet_of.Goals as goal

pub loop-year-preserved : goal.loop-year-preserved
loop-year-preserved g c =
    one_more (year_text (g.B.Basis.meaning c.args.basis.now)) c.loop-year.year
    (string_bytes c.write.new.self) (string_bytes c.loop-year.text) (string_bytes c.write_year.new.text)
    c.loop-year.invariant c.in_ok-write_year.ensures

pub returns : goal.returns
returns g c =
    let all : c.loop-year.year ≡ c.years-years.result = omega arith in
    whole (g.B.Basis.meaning c.args.basis.now) c.states-states.result c.years-years.result c.loop-year.year
    (string_bytes c.new-text.result) (string_bytes c.write.new.self) (string_bytes c.loop-year.text) (string_bytes c.push_str.new.self)
    c.states-states.ensures c.years-years.ensures all c.new-text.ensures.bytes
    c.in_ok-write.ensures.bytes c.loop-year.invariant c.in_ok-push_str.ensures.bytes
