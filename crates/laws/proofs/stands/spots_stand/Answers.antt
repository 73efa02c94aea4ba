use Rattle.laws.proofs.Spots.{spotting}
use Rattle.laws.proofs.stands.spots_stand.Goals as goal

pub returns : goal.returns
returns c = spotting
