-- Tables: a last choice and clauses at positions 0, 1 and on (a formula in conjunctive normal form).
use Rattle.std.specs.Prelude.{◌≡◌, ℕ, ◌≤◌, Bool, true, List, [], ◌∷◌, ◌++◌, length, nat_eq}
use Rattle.laws.specs.Lists.{any, every}
use Rattle.laws.specs.Literals.{choice}
use Rattle.laws.specs.Clauses.{lawful, literals, sorted}

-- choices are numbered 0 to last; equal clauses at two positions count as two
pub record Tab : Type 0 where
  pub last : ℕ
  pub clauses : List (List ℕ)

-- a table begins without clauses
abbrev pub empty : ℕ → Tab
empty n = record { last = n; clauses = [] }

-- the table with a clause of these codes behind the others
abbrev pub with_clause : Tab → List ℕ → Tab
with_clause t codes = record { last = t.last; clauses = t.clauses ++ sorted codes ∷ [] }

-- what holds of every table
pub record Lawful (t : Tab) : Type 0 where
  pub last_choice : t.last ≤ 255
  pub each : every (lawful t.last) t.clauses ≡ true
  pub few : length t.clauses ≤ 1024
  pub small : literals t.clauses ≤ 8192

-- a choice occurs in clauses if one of them contains one of its literals
abbrev pub occurs_in : ℕ → List (List ℕ) → Bool
occurs_in c Cs = any (any (λ l. nat_eq (choice l) c)) Cs
