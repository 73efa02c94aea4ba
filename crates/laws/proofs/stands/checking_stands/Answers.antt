use Rattle.laws.proofs.Checks.{checking}
use Rattle.laws.proofs.stands.checking_stands.Goals as goal

pub returns : goal.returns
returns c = checking
