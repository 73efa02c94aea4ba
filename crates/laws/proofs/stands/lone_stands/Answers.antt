use Rattle.laws.proofs.Lone.{lone_law}
use Rattle.laws.proofs.stands.lone_stands.Goals as goal

pub returns : goal.returns
returns c = lone_law
