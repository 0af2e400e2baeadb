use Rattle.contract.proofs.contract.Contract.fault.Goals as goal

pub returns : goal.returns
returns g c = c.breach.ensures
