-- Blocked: a clause that can be made true without harm is removed (blocked clause elimination).
use Rattle.std.specs.Prelude.{ℕ, Bool, cond, not, ◌&&◌, ◌||◌, List, length, Some, None, Contains, ◌==◌, ◌≢◌}
use Rattle.std.specs.List.{remove}
use Rattle.laws.specs.Clauses.{true_in}
use Rattle.laws.specs.Lists.{any, every, has}
use Rattle.laws.specs.Literals.{neg}
use Rattle.laws.specs.Rules.{Next, RuleMeaning, Safe, Repeats, ran}
use Rattle.laws.specs.Rules.Next.{stop, step}
use Rattle.laws.specs.Setting.{make}
use Rattle.laws.specs.Spots.{spot}
use Rattle.laws.specs.Tables.{Tab, Lawful}

-- D also holds the negation of a literal of C other than a
abbrev pub hinders : List ℕ → ℕ → List ℕ → Bool
hinders C a D = any (λ l. not (l == a) && has (neg l) D) C

-- C is blocked for a: every clause with the negation of a also holds the negation of a literal of C other than a
abbrev pub blocks : List (List ℕ) → List ℕ → ℕ → Bool
blocks Cs C a = every (λ D. not (has (neg a) D) || hinders C a D) Cs

-- a note: the clause that was removed, and the literal for which it is blocked
pub record Removal : Type 0 where
  pub clause : List ℕ
  pub literal : ℕ

-- a step: at the lowest position, for the lowest literal, a blocked clause is noted with the literal and removed
unfoldable pub blocked_next : List Removal → Tab → Next Removal
blocked_next notes t =
    elim (spot (blocks t.clauses) t.clauses) [
      | None ↦ stop
      | Some s ↦ step (record { clause = s.clause; literal = s.literal }) (record { last = t.last; clauses = remove t.clauses s.at })
    ]

-- on the way back: if the clause is false, its literal is made true
abbrev pub blocked_undo : Removal → List ℕ → List ℕ
blocked_undo n p = cond (true_in p n.clause) p (make n.literal p)

-- the rule. Each step takes a clause away
abbrev pub blocked : RuleMeaning Removal
blocked = record { next = blocked_next; undo = blocked_undo; size = λ t. length t.clauses }

-- C is blocked for a, in the subject's words
pub record Blocks (Cs : List (List ℕ)) (C : List ℕ) (a : ℕ) : Type 0 where
  pub stands : Contains Cs C
  pub literal : Contains C a
  pub hindered : (D : List ℕ) → Contains Cs D → Contains D (neg a) → (l : ℕ) × Contains C l × (l ≢ a) × Contains D (neg l)

-- no clause is blocked
abbrev pub NoBlocked : List (List ℕ) → Type 0
NoBlocked Cs = (C : List ℕ) (a : ℕ) → Blocks Cs C a → ⊥

pub record BlockedLaw : Type 0 where
  pub safe : Safe blocked
  pub repeats : (t : Tab) → Lawful t → Repeats blocked t
  pub ended : (t : Tab) → Lawful t → NoBlocked (ran blocked t).table.clauses
