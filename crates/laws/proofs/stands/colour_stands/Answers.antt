use Rattle.laws.proofs.Colour.{colour_law}
use Rattle.laws.proofs.stands.colour_stands.Goals as goal

pub returns : goal.returns
returns c = colour_law
