-- Setting literals: what becomes of a plan and of clauses when literals are made true (assigning literals).
use Rattle.std.specs.Prelude.{ℕ, ◌-◌, ◌%◌, Bool, cond, not, List, [], ◌∷◌, filter, slice_set}
use Rattle.laws.specs.Lists.{any, has}
use Rattle.laws.specs.Literals.{choice, neg}
use Rattle.laws.specs.Tables.{Tab}

-- a plan with a literal made true: its choice's byte is written; past the plan's end nothing is
abbrev pub make : ℕ → List ℕ → List ℕ
make w p = slice_set p (choice w) (1 - w % 2)

-- a plan with literals made true, one after another
abbrev pub make_all : List ℕ → List ℕ → List ℕ
make_all [] p = p
make_all (w ∷ ws) p = make_all ws (make w p)

-- a clause contains one of the literals
abbrev pub meets : List ℕ → List ℕ → Bool
meets ws C = any (λ l. has l ws) C

-- a clause without the literals whose negation is among ws
abbrev pub strip : List ℕ → List ℕ → List ℕ
strip ws C = filter (λ l. not (has (neg l) ws)) C

-- setting literals: each clause that contains one goes, their negations are deleted from the others, the order stays
abbrev pub assign : List ℕ → List (List ℕ) → List (List ℕ)
assign ws [] = []
assign ws (C ∷ Cs) = cond (meets ws C) (assign ws Cs) (strip ws C ∷ assign ws Cs)

-- the table with literals set
abbrev pub assigned : List ℕ → Tab → Tab
assigned ws t = record { last = t.last; clauses = assign ws t.clauses }

-- the table with one literal set
abbrev pub with_set : ℕ → Tab → Tab
with_set w t = assigned (w ∷ []) t
