use Rattle.laws.proofs.Sorted.{sorting}
use Rattle.laws.proofs.stands.sorting_stands.Goals as goal

pub returns : goal.returns
returns c = sorting
