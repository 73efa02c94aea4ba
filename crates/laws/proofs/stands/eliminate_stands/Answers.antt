use Rattle.laws.proofs.Eliminate.{eliminate_law}
use Rattle.laws.proofs.stands.eliminate_stands.Goals as goal

pub returns : goal.returns
returns c = eliminate_law
