use Rattle.lists.proofs.Cycles.{frames_counted}
use Rattle.claims.specs.Core.{core}
use Rattle.claims.proofs.CoreLaws.{laws}
use Rattle.claims.proofs.frames_counted.Goals as goal

pub returns : goal.returns
returns c = frames_counted core laws
