-- The splitter: sets what lone clauses force, and else splits on a literal (the Davis-Putnam-Logemann-Loveland search).
use Rattle.std.specs.Prelude.{◌≡◌, ℕ, zero, suc, ◌+◌, ◌<◌, ◌≤◌, Bool, true, false, cond, ◌↔◌, List, [], ◌∷◌, length, replicate, Some, None, Contains, ◌==◌, ◌≢◌, nat_le, nat_lt, slice_index_or}
use Rattle.laws.specs.Faults.{fault}
use Rattle.laws.specs.Lists.{any}
use Rattle.laws.specs.Literals.{neg}
use Rattle.laws.specs.Lone.{lone_in}
use Rattle.laws.specs.Occurring.{occurring_count}
use Rattle.laws.specs.Outcomes.{Outcome}
use Rattle.laws.specs.Outcomes.Outcome.{planned, never, refused}
use Rattle.laws.specs.Setting.{make, with_set}
use Rattle.laws.specs.Solvers.{Solves}
use Rattle.laws.specs.Tables.{Tab, Lawful}

-- what the search says next of clauses
pub data Turn : Type 0 where
  refuted : Turn
  solved : Turn
  forced : ℕ → Turn
  splits : ℕ → Turn

-- the clause has no literal
abbrev pub is_empty : List ℕ → Bool
is_empty C = length C == 0

-- the first among the shortest of C and clauses behind it
abbrev pub shortest_of : List ℕ → List (List ℕ) → List ℕ
shortest_of C [] = C
shortest_of C (D ∷ Ds) = cond (nat_lt (length D) (length C)) (shortest_of D Ds) (shortest_of C Ds)

-- the lowest literal of a clause
abbrev pub lowest_of : List ℕ → ℕ
lowest_of [] = 0
lowest_of (l ∷ ls) = l

-- the lowest literal of the first among the shortest clauses
abbrev pub split_on : List (List ℕ) → ℕ
split_on [] = 0
split_on (C ∷ Cs) = lowest_of (shortest_of C Cs)

-- an empty clause refutes; no clause is solved; a one-literal clause forces its literal; else the search splits
unfoldable pub turn : List (List ℕ) → Turn
turn [] = solved
turn (C ∷ Cs) =
    cond (any is_empty (C ∷ Cs)) refuted (elim (lone_in (C ∷ Cs)) [ None ↦ splits (split_on (C ∷ Cs)) | Some w ↦ forced w ])

-- what a search finds, with the number of its splits: a plan, or none
pub data Found : Type 0 where
  plan : List ℕ → ℕ → Found
  none : ℕ → Found

-- the plan that leaves out every choice 0 to n
abbrev pub blank : ℕ → List ℕ
blank n = replicate (n + 1) 0

-- what was found with a literal set is the table's, with the literal made true
abbrev pub setting : ℕ → Found → Found
setting w (plan p k) = plan (make w p) k
setting w (none k) = none k

-- one split on w: what was found with w set and, only if that is none, what was found with its negation set
abbrev pub chosen : ℕ → Found → Found → Found
chosen w (plan p k) b = plan (make w p) (k + 1)
chosen w (none k) (plan p m) = plan (make (neg w) p) (k + m + 1)
chosen w (none k) (none m) = none (k + m + 1)

-- it found none
abbrev pub is_none : Found → Bool
is_none (plan p k) = false
is_none (none k) = true

-- the search, by its four rules
pub data Searches : Tab → Found → Type 0 where
  -- with an empty clause the answer is none
  empty_clause : {t : Tab} → turn t.clauses ≡ refuted → Searches t (none 0)
  -- with no clause the plan leaves out every choice that was not set
  no_clause : {t : Tab} → turn t.clauses ≡ solved → Searches t (plan (blank t.last) 0)
  -- with a one-literal clause its literal, the first such, is set, then the same search
  lone_clause :
      {t : Tab} {a : Found} (w : ℕ) → turn t.clauses ≡ forced w → Searches (with_set w t) a
      → Searches t (setting w a)
  -- else one split on the lowest literal of the first among the shortest clauses
  split :
      {t : Tab} {a b : Found} (w : ℕ) → turn t.clauses ≡ splits w → Searches (with_set w t) a
      → (is_none a ≡ true → Searches (with_set (neg w) t) b)
      → Searches t (chosen w a b)

-- what the search finds, at most k literals deep
unfoldable pub found_within : ℕ → Tab → Found
found_within zero t = none 0
found_within (suc k) t =
    elim (turn t.clauses) [
      | refuted ↦ none 0
      | solved ↦ plan (blank t.last) 0
      | forced w ↦ setting w (found_within k (with_set w t))
      | splits w ↦ chosen w (found_within k (with_set w t)) (found_within k (with_set (neg w) t))
    ]

-- each literal that is set takes an occurring choice away
abbrev pub found : Tab → Found
found t = found_within (suc (occurring_count t)) t

-- the number of splits
abbrev pub splits_of : Found → ℕ
splits_of (plan p k) = k
splits_of (none k) = k

-- what was found as an answer; work is the number of splits
abbrev pub outcome_of : Found → Outcome
outcome_of (plan p k) = planned p k
outcome_of (none k) = never k

-- an answer where so many splits are left of a limit: beyond them it is refused with 41, the limit as place
abbrev pub within_splits : ℕ → ℕ → Found → Outcome
within_splits limit left a = cond (nat_le (splits_of a) left) (outcome_of a) (refused (fault 3 41 limit))

-- the splitter's answer
abbrev pub splitter : ℕ → Tab → Outcome
splitter limit t = within_splits limit limit (found t)

-- the turns in the subject's words
pub record TurnsOf (Cs : List (List ℕ)) : Type 0 where
  pub refutes : (turn Cs ≡ refuted) ↔ Contains Cs []
  pub solves : (turn Cs ≡ solved) ↔ (Cs ≡ [])
  pub forces : (w : ℕ) → (turn Cs ≡ forced w) ↔ ((Contains Cs [] → ⊥) × (lone_in Cs ≡ Some w))
  pub splits_when :
      (w : ℕ)
      → (turn Cs ≡ splits w) ↔ ((Contains Cs [] → ⊥) × (lone_in Cs ≡ None) × (Cs ≢ []) × (w ≡ split_on Cs))

-- w is the lowest literal of the first among the shortest clauses, in the subject's words: no clause is shorter than the
-- one at this position, and each one before it is longer
pub record FirstShortest (Cs : List (List ℕ)) (w : ℕ) : Type 0 where
  pub at : ℕ
  pub inside : at < length Cs
  pub shortest : (j : ℕ) → j < length Cs → length (slice_index_or Cs at []) ≤ length (slice_index_or Cs j [])
  pub first : (j : ℕ) → j < at → length (slice_index_or Cs at []) < length (slice_index_or Cs j [])
  pub lowest : w ≡ lowest_of (slice_index_or Cs at [])

-- what is split on is the lowest literal of the first among the shortest clauses; the search of a lawful table exists
-- and is unique, and the function gives exactly it; the splitter refuses, with 41 and the limit as place, exactly if the
-- number of splits is above the limit; and its answers are right
pub record SplitterLaw : Type 0 where
  pub turns : (Cs : List (List ℕ)) → TurnsOf Cs
  pub shortest : (Cs : List (List ℕ)) → (Cs ≢ []) → FirstShortest Cs (split_on Cs)
  pub searches : (t : Tab) → Lawful t → Searches t (found t)
  pub only : (t : Tab) (a : Found) → Lawful t → Searches t a → a ≡ found t
  pub falls_forced : (t : Tab) (w : ℕ) → Lawful t → turn t.clauses ≡ forced w → occurring_count (with_set w t) < occurring_count t
  pub falls_split :
      (t : Tab) (w : ℕ) → Lawful t → turn t.clauses ≡ splits w
      → (occurring_count (with_set w t) < occurring_count t) × (occurring_count (with_set (neg w) t) < occurring_count t)
  pub refuses :
      (limit : ℕ) (t : Tab) (a : Found) → Lawful t → Searches t a
      → (splitter limit t ≡ refused (fault 3 41 limit)) ↔ (limit < splits_of a)
  pub answers :
      (limit : ℕ) (t : Tab) (a : Found) → Lawful t → Searches t a → splits_of a ≤ limit
      → splitter limit t ≡ outcome_of a
  pub right : (limit : ℕ) → Solves (splitter limit)
