-- Trim: a literal that another clause makes needless is deleted (self-subsuming resolution, strengthening).
use Rattle.std.specs.Prelude.{ℕ, Bool, not, ◌&&◌, ◌||◌, List, [], Some, None, Contains, filter, ◌==◌, ◌≢◌, slice_index_or, slice_set}
use Rattle.laws.specs.Clauses.{literals}
use Rattle.laws.specs.Lists.{any, every, has}
use Rattle.laws.specs.Literals.{neg}
use Rattle.laws.specs.Rules.{Next, RuleMeaning, Safe, Repeats, ran}
use Rattle.laws.specs.Rules.Next.{stop, step}
use Rattle.laws.specs.Spots.{spot}
use Rattle.laws.specs.Tables.{Tab, Lawful}

-- the clause E holds the negation of x, and all its other literals stand in D
abbrev pub shortens : List ℕ → ℕ → List ℕ → Bool
shortens D x E = has (neg x) E && every (λ l. (l == neg x) || has l D) E

-- x can be trimmed from D: some clause shortens it
abbrev pub trims : List (List ℕ) → List ℕ → ℕ → Bool
trims Cs D x = any (shortens D x) Cs

-- a clause without one literal
abbrev pub without : ℕ → List ℕ → List ℕ
without x C = filter (λ l. not (l == x)) C

-- the clauses with a literal deleted from the one at a position; past the end nothing is
abbrev pub deleted_at : ℕ → ℕ → List (List ℕ) → List (List ℕ)
deleted_at i x Cs = slice_set Cs i (without x (slice_index_or Cs i []))

-- a step: at the lowest position the lowest literal that can be trimmed is deleted; nothing is noted
unfoldable pub trim_next : List (Unit {0}) → Tab → Next (Unit {0})
trim_next notes t =
    elim (spot (trims t.clauses) t.clauses) [
      | None ↦ stop
      | Some s ↦ step tt (record { last = t.last; clauses = deleted_at s.at s.literal t.clauses })
    ]

-- the rule; nothing is to be done on the way back. Each step takes a literal away
abbrev pub trim : RuleMeaning (Unit {0})
trim = record { next = trim_next; undo = λ _ p. p; size = λ t. literals t.clauses }

-- x of D is trimmed by E, in the subject's words
pub record Trims (Cs : List (List ℕ)) (D : List ℕ) (x : ℕ) (E : List ℕ) : Type 0 where
  pub stands : Contains Cs D
  pub literal : Contains D x
  pub other : Contains Cs E
  pub negated : Contains E (neg x)
  pub inside : (l : ℕ) → Contains E l → (l ≢ neg x) → Contains D l

-- no literal can be trimmed
abbrev pub NoTrim : List (List ℕ) → Type 0
NoTrim Cs = (D : List ℕ) (x : ℕ) (E : List ℕ) → Trims Cs D x E → ⊥

pub record TrimLaw : Type 0 where
  pub safe : Safe trim
  pub repeats : (t : Tab) → Lawful t → Repeats trim t
  pub ended : (t : Tab) → Lawful t → NoTrim (ran trim t).table.clauses
