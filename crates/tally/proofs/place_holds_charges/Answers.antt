use Rattle.tally.proofs.EntriesLaws.{place_holds_charges}
use Rattle.tally.proofs.place_holds_charges.Goals as goal

pub returns : goal.returns
returns c = place_holds_charges
