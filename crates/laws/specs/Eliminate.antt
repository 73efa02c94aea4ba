-- Eliminate: a choice goes, and its clauses are replaced by their resolvents (bounded variable elimination).
use Rattle.std.specs.Prelude.{◌≡◌, ℕ, ◌+◌, ◌≤◌, Bool, true, cond, not, ◌&&◌, List, [], ◌∷◌, length, Some, None, ◌==◌, nat_le}
use Rattle.std.specs.List.{range_with_len}
use Rattle.laws.specs.Clauses.{literals}
use Rattle.laws.specs.Lists.{any, first}
use Rattle.laws.specs.Literals.{choice, taking, leaving, holds}
use Rattle.laws.specs.Occurring.{occurring_count}
use Rattle.laws.specs.Resolving.{holding, resolved}
use Rattle.laws.specs.Rules.{Next, RuleMeaning, Safe, Repeats, ran}
use Rattle.laws.specs.Rules.Next.{stop, step}
use Rattle.laws.specs.Setting.{make}
use Rattle.laws.specs.Tables.{Tab, Lawful, occurs_in}

-- a note: the choice, and its clauses in which it is taken
pub record Elimination : Type 0 where
  pub choice : ℕ
  pub clauses : List (List ℕ)

-- how many clauses, and how many literals, notes hold together
abbrev pub noted_clauses : List Elimination → ℕ
noted_clauses [] = 0
noted_clauses (n ∷ ns) = length n.clauses + noted_clauses ns

abbrev pub noted_literals : List Elimination → ℕ
noted_literals [] = 0
noted_literals (n ∷ ns) = literals n.clauses + noted_literals ns

-- neither clauses nor literals grow
abbrev pub no_growth : ℕ → List (List ℕ) → Bool
no_growth c Cs = nat_le (length (resolved c Cs)) (length Cs) && nat_le (literals (resolved c Cs)) (literals Cs)

-- with a note of these clauses all notes hold at most 1,024 clauses and 8,192 literals
abbrev pub note_fits : List Elimination → List (List ℕ) → Bool
note_fits notes P =
    nat_le (length P + noted_clauses notes) 1024 && nat_le (literals P + noted_literals notes) 8192

-- a choice qualifies if it occurs, neither clauses nor literals grow, and the note fits
abbrev pub qualifies : List Elimination → List (List ℕ) → ℕ → Bool
qualifies notes Cs c = occurs_in c Cs && (no_growth c Cs && note_fits notes (holding (taking c) Cs))

-- a step: the lowest choice that qualifies is noted with its clauses in which it is taken, and its clauses are replaced
unfoldable pub eliminate_next : List Elimination → Tab → Next Elimination
eliminate_next notes t =
    elim (first (qualifies notes t.clauses) (range_with_len 0 (t.last + 1))) [
      | None ↦ stop
      | Some c ↦ step (record { choice = c; clauses = holding (taking c) t.clauses }) (record { last = t.last; clauses = resolved c t.clauses })
    ]

-- a clause has a true literal of a choice other than c
abbrev pub otherwise_true : ℕ → List ℕ → List ℕ → Bool
otherwise_true c p C = any (λ l. not (choice l == c) && holds p l) C

-- on the way back: the choice is taken if one of its noted clauses has no other true literal, else left out
abbrev pub eliminate_undo : Elimination → List ℕ → List ℕ
eliminate_undo n p =
    cond (any (λ C. not (otherwise_true n.choice p C)) n.clauses) (make (taking n.choice) p) (make (leaving n.choice) p)

-- the rule. With each step one choice less occurs
abbrev pub eliminate : RuleMeaning Elimination
eliminate = record { next = eliminate_next; undo = eliminate_undo; size = occurring_count }

-- a choice qualifies, in the subject's words
pub record Qualifies (notes : List Elimination) (t : Tab) (c : ℕ) : Type 0 where
  pub inside : c ≤ t.last
  pub occurs : occurs_in c t.clauses ≡ true
  pub no_more_clauses : length (resolved c t.clauses) ≤ length t.clauses
  pub no_more_literals : literals (resolved c t.clauses) ≤ literals t.clauses
  pub note_clauses : length (holding (taking c) t.clauses) + noted_clauses notes ≤ 1024
  pub note_literals : literals (holding (taking c) t.clauses) + noted_literals notes ≤ 8192

-- no choice qualifies
abbrev pub NoQualified : List Elimination → Tab → Type 0
NoQualified notes t = (c : ℕ) → Qualifies notes t c → ⊥

pub record EliminateLaw : Type 0 where
  pub safe : Safe eliminate
  pub repeats : (t : Tab) → Lawful t → Repeats eliminate t
  pub ended : (t : Tab) → Lawful t → NoQualified (ran eliminate t).notes (ran eliminate t).table
