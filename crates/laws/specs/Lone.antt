-- Lone: a clause of one literal leaves no choice, so the literal is set (unit propagation).
use Rattle.std.specs.Prelude.{◌≡◌, ℕ, ◌<◌, ◌↔◌, List, [], ◌∷◌, length, get_or, Some, None, All, Option, ◌≢◌, slice_index_or}
use Rattle.laws.specs.Lists.{first_some}
use Rattle.laws.specs.Rules.{Next, RuleMeaning, Safe, Repeats, ran}
use Rattle.laws.specs.Rules.Next.{stop, step}
use Rattle.laws.specs.Setting.{make, with_set}
use Rattle.laws.specs.Tables.{Tab, Lawful}

-- the literal of a clause that has just one
abbrev pub single : List ℕ → Option ℕ
single [] = None
single (w ∷ []) = Some w
single (w ∷ v ∷ C) = None

-- the literal of the first one-literal clause
abbrev pub lone_in : List (List ℕ) → Option ℕ
lone_in Cs = first_some single Cs

-- a step: the literal is noted and set
unfoldable pub lone_next : List ℕ → Tab → Next ℕ
lone_next notes t = elim (lone_in t.clauses) [ None ↦ stop | Some w ↦ step w (with_set w t) ]

-- the rule; on the way back the literal is made true. Each step takes a clause away
abbrev pub lone : RuleMeaning ℕ
lone = record { next = lone_next; undo = make; size = λ t. length t.clauses }

-- no clause of one literal is left
abbrev pub NoLone : List (List ℕ) → Type 0
NoLone Cs = All (λ C. length C ≢ 1) Cs

-- w is the literal of the first one-literal clause, in the subject's words: the clause at this position has no other
-- literal, and none before it has just one
pub record FirstLone (Cs : List (List ℕ)) (w : ℕ) : Type 0 where
  pub at : ℕ
  pub inside : at < length Cs
  pub clause_is : get_or Cs at [] ≡ w ∷ []
  pub before : (j : ℕ) → j < at → length (slice_index_or Cs j []) ≢ 1

-- a literal is found exactly if it is that of the first one-literal clause; lone is safe; repeated it has the three
-- points, and at its end no clause of one literal is left
pub record LoneLaw : Type 0 where
  pub first : (Cs : List (List ℕ)) (w : ℕ) → (lone_in Cs ≡ Some w) ↔ FirstLone Cs w
  pub safe : Safe lone
  pub repeats : (t : Tab) → Lawful t → Repeats lone t
  pub ended : (t : Tab) → Lawful t → NoLone (ran lone t).table.clauses
