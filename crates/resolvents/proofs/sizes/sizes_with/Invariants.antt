-- The resolvents with the clauses so far are counted; each turn adds at most one, of at most 16,384 literals.
use Rattle.std.proofs.Common.{◌≡◌, ◌*◌, ◌≤◌, length, take}
use Rattle.laws.specs.Clauses.{literals}
use Rattle.resolvents.proofs.Pairs.{with_each}
use Rattle.resolvents.proofs.sizes.sizes_with.Given as goal

abbrev pub invariant-loop-second : goal.invariant-loop-second
invariant-loop-second l =
    record {
      few : l.n ≤ l.second-index;
      small : l.m ≤ 16384 * l.second-index;
      number : l.n ≡ length (with_each l.c l.first (take l.second-index l.second-items));
      total : l.m ≡ literals (with_each l.c l.first (take l.second-index l.second-items));
    }
