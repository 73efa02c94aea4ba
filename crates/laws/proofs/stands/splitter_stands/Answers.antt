use Rattle.laws.proofs.Splitter.{splitter_law}
use Rattle.laws.proofs.stands.splitter_stands.Goals as goal

pub returns : goal.returns
returns c = splitter_law
