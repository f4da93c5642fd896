use Rattle.claims.proofs.EdgesHold.{edges_hold}
use Rattle.claims.proofs.edges_hold.Goals as goal

pub returns : goal.returns
returns c = edges_hold
