-- A clause handed to a table as it is.
use Rattle.std.specs.Prelude.{◌≡◌, ℕ, ◌+◌, Bool, true, false, ◌&&◌, List, [], ◌∷◌, ◌++◌, length, Ok, Err, Result, nat_le, nat_lt}
use Rattle.std.specs.declared.alloc.AllocError.{AllocError}
use Rattle.laws.specs.Clauses.{lawful, literals}
use Rattle.laws.specs.Tables.{Tab}

-- the table with the clause stays lawful: the clause is, and there is room for it and for its literals
abbrev pub appendable : Tab → List ℕ → Bool
appendable t D = lawful t.last D && (nat_lt (length t.clauses) 1024 && nat_le (literals t.clauses + length D) 8192)

-- the table with the clause behind the others
abbrev pub with_behind : Tab → List ℕ → Tab
with_behind t D = record { last = t.last; clauses = t.clauses ++ D ∷ [] }

-- the clause D was handed to the table t, which is u now: taken, turned away, or not done for want of memory.
-- Only a clause that could be taken can meet want of memory.
abbrev pub Appended : Tab → List ℕ → Result Bool AllocError → Tab → Type 0
Appended t D (Ok true) u = (appendable t D ≡ true) × (u ≡ with_behind t D)
Appended t D (Ok false) u = (appendable t D ≡ false) × (u ≡ t)
Appended t D (Err e) u = (appendable t D ≡ true) × (u ≡ t)
