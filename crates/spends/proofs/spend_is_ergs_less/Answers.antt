use Rattle.spends.proofs.Lines.{spend_is_ergs_less}
use Rattle.spends.proofs.spend_is_ergs_less.Goals as goal

pub returns : goal.returns
returns c = spend_is_ergs_less
