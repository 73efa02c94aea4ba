use Rattle.laws.proofs.Cover.{cover_law}
use Rattle.laws.proofs.stands.cover_stands.Goals as goal

pub returns : goal.returns
returns c = cover_law
