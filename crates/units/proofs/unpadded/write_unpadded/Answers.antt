use Rattle.units.proofs.Collected.{collected, written_plain, written_styled}
use Rattle.units.proofs.unpadded.write_unpadded.Goals as goal

pub returns-clause-plain : goal.returns-clause-plain
returns-clause-plain g c =
    let whole = collected _ _ _ c.new-whole.ensures.intact c.new-whole.ensures.text
    c.in_ok-write.ensures.writes in
    written_plain _ _ _ _ _ _ whole (rw c.as_str.ensures.value at c.write_str.ensures.writes)

pub returns-clause-styled : goal.returns-clause-styled
returns-clause-styled g c =
    let whole = collected _ _ _ c.new-whole.ensures.intact c.new-whole.ensures.text
    c.in_ok-write.ensures.writes in
    written_styled _ _ _ _ _ _ whole (rw c.as_str.ensures.value at c.write_str.ensures.styled)
