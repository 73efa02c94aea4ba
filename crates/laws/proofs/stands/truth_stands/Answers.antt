use Rattle.laws.proofs.Truth.{truth}
use Rattle.laws.proofs.stands.truth_stands.Goals as goal

pub returns : goal.returns
returns c = truth
