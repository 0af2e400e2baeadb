use Rattle.valuation.proofs.Plain.{reserve_never_raised}
use Rattle.valuation.proofs.pricing.least_premium.Goals as goal

pub returns-clause-never_raised_by_premium : goal.returns-clause-never_raised_by_premium
returns-clause-never_raised_by_premium g c = reserve_never_raised _
