use Rattle.laws.proofs.Trim.{trim_law}
use Rattle.laws.proofs.stands.trim_stands.Goals as goal

pub returns : goal.returns
returns c = trim_law
