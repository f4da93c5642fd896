use Rattle.spends.proofs.Lines.{ergs_accounted}
use Rattle.spends.proofs.ergs_accounted.Goals as goal

pub returns : goal.returns
returns c = ergs_accounted
