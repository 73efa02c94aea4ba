use Rattle.laws.proofs.Lister.{lister_law}
use Rattle.laws.proofs.stands.lister_stands.Goals as goal

pub returns : goal.returns
returns c = lister_law
