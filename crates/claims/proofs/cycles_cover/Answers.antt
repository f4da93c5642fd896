use Rattle.lists.proofs.Cover.{cycles_cover}
use Rattle.claims.specs.Core.{core}
use Rattle.claims.proofs.CoreLaws.{laws}
use Rattle.claims.proofs.cycles_cover.Goals as goal

pub returns : goal.returns
returns c = cycles_cover core laws
