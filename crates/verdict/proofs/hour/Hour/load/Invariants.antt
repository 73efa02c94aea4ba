-- Whatever reading on from here comes to is what the whole file comes to.
use Rattle.std.proofs.Common.{◌≡◌, ◌-◌, length}
use Rattle.verdict.specs.Hours.{Loaded, asked_of, nothing}
use Rattle.verdict.specs.Loading.{Loading}
use Rattle.verdict.proofs.hour.Hour.load.Given as goal

abbrev pub invariant-loop-hour : goal.invariant-loop-hour
invariant-loop-hour l =
    (l.reader.src.now ≡ l.src)
    × ((x : Loaded) → Loading l.src l.reader.pos (asked_of l.hour) x → Loading l.src 0 (nothing 0) x)

abbrev pub decreases-loop-hour : goal.decreases-loop-hour
decreases-loop-hour l = length l.src - l.reader.pos
