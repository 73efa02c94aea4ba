use Rattle.verdict.proofs.Loads.{loads_one}
use Rattle.verdict.proofs.stands.loading_stands.Goals as goal

pub returns : goal.returns
returns c = loads_one
