use Rattle.laws.proofs.Tables.{takes}
use Rattle.laws.proofs.stands.taking_stands.Goals as goal

pub returns : goal.returns
returns c = takes
