use Rattle.laws.proofs.Repetition.{repetition}
use Rattle.laws.proofs.stands.repetition_stands.Goals as goal

pub returns : goal.returns
returns g c = repetition
