use Rattle.tally.proofs.EntriesLaws.{place_holds_spend}
use Rattle.tally.proofs.place_holds_spend.Goals as goal

pub returns : goal.returns
returns c = place_holds_spend
