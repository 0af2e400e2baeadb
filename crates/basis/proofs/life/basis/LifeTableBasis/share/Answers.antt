use Rattle.std.proofs.Common.{refl, rules}
use borrow.Author.Rules.{get_or_read}
use Rattle.units.specs.Ranges.{million}
use Rattle.units.proofs.Ranged.{kept_between}
use Rattle.basis.proofs.life.basis.LifeTableBasis.share.Goals as goal

pub overflow_sub-result : goal.overflow_sub-result
overflow_sub-result c = let dead = kept_between c.args.self.now.deaths.items _ 0 million refl c.args.self.now.fit.shares c.args.year in search (rules, get_or_read)
