use Rattle.laws.proofs.Negation.{negation}
use Rattle.laws.proofs.stands.negation_stands.Goals as goal

pub returns : goal.returns
returns c = negation
