use Rattle.laws.proofs.Piles.{pile_law}
use Rattle.laws.proofs.stands.piles_stand.Goals as goal

pub returns : goal.returns
returns c = pile_law
