-- What comes of one step of a rule, and the way back by notes.
use Rattle.std.specs.Prelude.{◌≡◌, ℕ, List, map, reverse, Some, None, Ok, Err, Option, Result}
use Rattle.laws.specs.Rules.{RuleMeaning, undo_all}
use Rattle.laws.specs.Rules.Next.{stop, step}
use Rattle.laws.specs.Tables.{Tab}
use Rattle.pile.specs.Ways.{Way}

-- a step of rule r at these notes, the newest first, from table t, left table u: no step is left and the table stays; or
-- a note, and the table after the step; or want of memory, which leaves of the table the last choice
abbrev pub Stepped : {N X E : Type 0} → RuleMeaning N → (X → N) → List N → Tab → Result (Option X) E → Tab → Type 0
Stepped r noted notes t (Ok None) u = (r.next notes t ≡ stop) × (u ≡ t)
Stepped r noted notes t (Ok (Some n)) u = r.next notes t ≡ step (noted n) u
Stepped r noted notes t (Err e) u = u.last ≡ t.last

-- what notes say, the newest first; a Vec has them the oldest first
abbrev pub newest_first : {N X : Type 0} → (X → N) → List X → List N
newest_first noted xs = reverse (map noted xs)

-- the way back by these notes of a rule
abbrev pub way_by : {N X : Type 0} → RuleMeaning N → (X → N) → ℕ → List X → Way
way_by r noted bytes xs = record { bytes = bytes; apply = undo_all r (newest_first noted xs) }
