-- The clauses passed are stripped; those to come are as they were.
use Rattle.std.proofs.Common.{◌≡◌, ◌++◌, map, take, drop}
use Rattle.laws.specs.Setting.{strip}
use Rattle.table.specs.Codes.{codes_of}
use Rattle.edits.proofs.clauses.strip_each.Given as goal

abbrev pub invariant-loop-clause : goal.invariant-loop-clause
invariant-loop-clause l =
    map codes_of l.clause-items
    ≡ map (strip l.set) (take l.clause-index (map codes_of l.fn.clauses.items)) ++ drop l.clause-index (map codes_of l.fn.clauses.items)
