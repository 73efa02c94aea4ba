use Rattle.laws.proofs.Blocked.{blocked_law}
use Rattle.laws.proofs.stands.blocked_stands.Goals as goal

pub returns : goal.returns
returns c = blocked_law
