-- Adding the codes that are left gives the resolvent.
use Rattle.std.proofs.Common.{◌≡◌, vec_items}
use Rattle.std.specs.Iterator.Adapters.{rev_source}
use Rattle.std.specs.Slice.Iter.{iter_rest}
use Rattle.laws.specs.Resolving.{apart, union, resolvent}
use Rattle.resolvents.proofs.pair.resolvent.Given as goal

abbrev pub invariant-loop-code : goal.invariant-loop-code
invariant-loop-code l =
    union (vec_items l.out) (apart l.c (iter_rest (rev_source l.code-iterator))) ≡ resolvent l.c l.first l.second
