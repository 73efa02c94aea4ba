use Rattle.laws.proofs.Checks.{placing}
use Rattle.laws.proofs.stands.placing_stands.Goals as goal

pub returns : goal.returns
returns c = placing
