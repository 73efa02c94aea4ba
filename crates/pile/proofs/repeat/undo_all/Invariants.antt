-- Using the notes that are left on the plan as it is now gives what using all of them on the first plan does.
use Rattle.std.proofs.Common.{◌≡◌}
use Rattle.std.specs.Iterator.Adapters.{rev_source}
use Rattle.std.specs.Slice.Iter.{iter_rest}
use Rattle.laws.specs.Rules.{undo_all}
use Rattle.pile.specs.Stepped.{newest_first}
use Rattle.pile.proofs.repeat.undo_all.Given as goal

abbrev pub invariant-loop-note : goal.invariant-loop-note
invariant-loop-note g l =
    undo_all (g.R.Rule.rule l.rule) (newest_first g.R.Rule.noted (iter_rest (rev_source l.note-iterator))) l.plan
    ≡ undo_all (g.R.Rule.rule l.rule) (newest_first g.R.Rule.noted l.notes) l.initial.plan
