-- The codes in order, none more and none fewer, are the sorted codes.
use Rattle.std.proofs.Common.{ap, ◌∙◌}
use Rattle.laws.specs.Clauses.{sorted}
use Rattle.laws.proofs.Ordered.{sorted_by_order}
use Rattle.table.proofs.clause.Clause.sorted.Goals as goal

pub returns : goal.returns
returns c =
    let at = c.in_ok-codes.ensures.items in
    sorted_by_order c.in_ok-codes.codes.items c.sort_unstable.new.self.items c.sort_unstable.ensures.permutation c.sort_unstable.ensures.sorted
    ∙ ap sorted at
