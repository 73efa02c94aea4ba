-- The resolvents with the clauses so far are pushed.
use Rattle.std.proofs.Common.{◌≡◌, ◌++◌, map, take, vec_items}
use Rattle.laws.specs.Literals.{leaving}
use Rattle.laws.specs.Resolving.{holding, resolvents_of}
use Rattle.table.specs.Codes.{codes_of}
use Rattle.resolvents.proofs.all.push_each.Given as goal

abbrev pub invariant-loop-second : goal.invariant-loop-second
invariant-loop-second l =
    map codes_of (vec_items l.out)
    ≡ map codes_of (vec_items l.initial.out)
    ++ resolvents_of l.c l.first (holding (leaving l.c) (map codes_of (take l.second-index l.second-items)))
