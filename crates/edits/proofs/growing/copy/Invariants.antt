-- The clauses so far are copied.
use Rattle.std.proofs.Common.{◌≡◌, map, take, vec_items}
use Rattle.table.specs.Codes.{codes_of}
use Rattle.edits.proofs.growing.copy.Given as goal

abbrev pub invariant-loop-clause : goal.invariant-loop-clause
invariant-loop-clause l = map codes_of (vec_items l.clauses) ≡ map codes_of (take l.clause-index l.clause-items)
