use Rattle.laws.proofs.Broken.{breakage}
use Rattle.laws.proofs.stands.breakage_stands.Goals as goal

pub returns : goal.returns
returns c = breakage
