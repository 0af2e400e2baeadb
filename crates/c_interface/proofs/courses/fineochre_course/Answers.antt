use Rattle.std.proofs.lemmas.Int.{to_z-of_z}
use Rattle.c_interface.proofs.courses.fineochre_course.Goals as goal

pub returns : goal.returns
returns c = (c.new.result, simp (to_z-of_z, c.ranges.premium) at c.answer_course.ensures)
