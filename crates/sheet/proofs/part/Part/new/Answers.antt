use Rattle.std.proofs.Common.{refl}
use Rattle.sheet.proofs.OwnBytes.{whole_stands}
use Rattle.sheet.proofs.part.Part.new.Goals as goal

pub returns-clause-own_bytes : goal.returns-clause-own_bytes
returns-clause-own_bytes c = whole_stands c.args.bytes.now _ refl refl
