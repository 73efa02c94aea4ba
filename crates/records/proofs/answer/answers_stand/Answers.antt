use Rattle.records.proofs.AnswerTrips.{laws}
use Rattle.records.proofs.answer.answers_stand.Goals as goal

pub returns : goal.returns
returns c = laws
