use Rattle.claims.proofs.AnswersLaws.{every_call_answers}
use Rattle.claims.proofs.every_call_answers.Goals as goal

pub returns : goal.returns
returns c = every_call_answers
