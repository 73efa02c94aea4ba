use Rattle.laws.proofs.Piles.{layer_law}
use Rattle.laws.proofs.stands.layer_stands.Goals as goal

pub returns : goal.returns
returns c = layer_law
