use Rattle.lists.proofs.Resume.{callers_resume}
use Rattle.claims.specs.Core.{core}
use Rattle.claims.proofs.CoreLaws.{laws}
use Rattle.claims.proofs.callers_resume.Goals as goal

pub returns : goal.returns
returns c = callers_resume core laws
