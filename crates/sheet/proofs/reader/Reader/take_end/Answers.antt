use Rattle.std.proofs.Common.{◌≡◌, ◌≤◌, ◌*◌, take, length, arith}
use Rattle.std.proofs.lemmas.Bool.Decides.{nat_tests}
use Rattle.std.proofs.lemmas.List.{length-take-le}
use Rattle.sheet.proofs.Held.{take_padded, places_fit}
use Rattle.sheet.specs.Checks.{padded}
use Rattle.sheet.proofs.reader.Reader.take_end.Goals as goal

pub returns : goal.returns
returns c =
    let r = c.args.self.now in
    let fit = places_fit r.states r.years r.most_states r.most_years in
    let come : length (take r.come r.factors) ≡ r.come = length-take-le r.come r.factors (grind arith) in
    let next : r.next ≤ r.years * r.states * r.states = grind arith in
    let shares : take (r.years * r.states * r.states) r.shares ≡ padded (take r.next r.shares) (r.years * r.states * r.states) = take_padded r.shares r.next (r.years * r.states * r.states) next (grind arith) r.noughts in
    (grind (arith, nat_tests), cc)
