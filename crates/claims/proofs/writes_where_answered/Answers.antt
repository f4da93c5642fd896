use Rattle.claims.proofs.WritePlace.{writes_where_answered}
use Rattle.claims.proofs.writes_where_answered.Goals as goal

pub returns : goal.returns
returns c = writes_where_answered
