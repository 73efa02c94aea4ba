-- What the run from here comes to, with the records so far, is what the whole run comes to.
use Rattle.std.proofs.Common.{◌≡◌, ◌-◌, ◌≤◌, length}
use Rattle.records.specs.Script.{script, counted, verdict}
use Rattle.records.proofs.run.scan.Given as goal

abbrev pub invariant-loop-next : goal.invariant-loop-next
invariant-loop-next l = (l.reader.src.now ≡ l.src) × (l.count ≤ l.reader.pos)
    × (counted l.count (script l.src l.reader.pos) ≡ verdict (script l.src 0))

abbrev pub decreases-loop-next : goal.decreases-loop-next
decreases-loop-next l = length l.src - l.reader.pos
