-- Whatever the run from here ends in, the run from the start ends in; the table stays lawful and keeps its last choice.
use Rattle.std.proofs.Common.{◌≡◌, List, [], vec_items}
use Rattle.laws.specs.Rules.{Runs}
use Rattle.laws.specs.Tables.{Tab, Lawful}
use Rattle.table.specs.Held.{tab_of}
use Rattle.pile.specs.Stepped.{newest_first}
use Rattle.pile.proofs.repeat.RepeatReduction.reduce.Given as goal

abbrev pub invariant-loop-notes : goal.invariant-loop-notes
invariant-loop-notes g l =
    Lawful (tab_of l.table)
    × ((tab_of l.table).last ≡ (tab_of l.initial.table).last)
    × ((ms : List g.R.Rule.Noted) (v : Tab)
    → Runs (g.R.Rule.rule l.self.rule) (newest_first g.R.Rule.noted (vec_items l.notes)) (tab_of l.table) ms v
    → Runs (g.R.Rule.rule l.self.rule) [] (tab_of l.initial.table) ms v)

abbrev pub decreases-loop-notes : goal.decreases-loop-notes
decreases-loop-notes g l = (g.R.Rule.rule l.self.rule).size (tab_of l.table)
