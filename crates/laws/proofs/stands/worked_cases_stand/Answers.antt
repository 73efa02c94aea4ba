use Rattle.laws.proofs.Cases.{worked_cases}
use Rattle.laws.proofs.stands.worked_cases_stand.Goals as goal

pub returns : goal.returns
returns c = worked_cases
