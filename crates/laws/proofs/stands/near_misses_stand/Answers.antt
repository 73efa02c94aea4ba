use Rattle.laws.proofs.NearMisses.{near_misses}
use Rattle.laws.proofs.stands.near_misses_stand.Goals as goal

pub returns : goal.returns
returns c = near_misses
