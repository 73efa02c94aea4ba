use Rattle.laws.proofs.Lawful.{lawfulness}
use Rattle.laws.proofs.stands.lawfulness_stands.Goals as goal

pub returns : goal.returns
returns c = lawfulness
