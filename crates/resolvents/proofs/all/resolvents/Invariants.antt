-- The resolvents of the clauses so far are pushed.
use Rattle.std.proofs.Common.{◌≡◌, map, take, vec_items}
use Rattle.laws.specs.Literals.{taking, leaving}
use Rattle.laws.specs.Resolving.{holding, resolvents_all}
use Rattle.table.specs.Codes.{codes_of}
use Rattle.table.specs.Held.{clauses_of}
use Rattle.resolvents.proofs.all.resolvents.Given as goal

abbrev pub invariant-loop-first : goal.invariant-loop-first
invariant-loop-first l =
    map codes_of (vec_items l.out)
    ≡ resolvents_all l.c (holding (taking l.c) (map codes_of (take l.first-index l.first-items))) (holding (leaving l.c) (clauses_of l.table))
