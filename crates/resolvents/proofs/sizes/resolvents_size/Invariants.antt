-- The resolvents of the clauses so far are counted; each turn adds at most 1,024, of at most 16,777,216 literals.
use Rattle.std.proofs.Common.{◌≡◌, ◌*◌, ◌≤◌, length, take}
use Rattle.laws.specs.Clauses.{literals}
use Rattle.laws.specs.Literals.{leaving}
use Rattle.laws.specs.Resolving.{holding}
use Rattle.table.specs.Held.{clauses_of}
use Rattle.resolvents.proofs.Pairs.{of_each}
use Rattle.resolvents.proofs.sizes.resolvents_size.Given as goal

abbrev pub invariant-loop-first : goal.invariant-loop-first
invariant-loop-first l =
    record {
      few : l.n ≤ 1024 * l.first-index;
      small : l.m ≤ 16777216 * l.first-index;
      number : l.n ≡ length (of_each l.c (holding (leaving l.c) (clauses_of l.table)) (take l.first-index l.first-items));
      total : l.m ≡ literals (of_each l.c (holding (leaving l.c) (clauses_of l.table)) (take l.first-index l.first-items));
    }
