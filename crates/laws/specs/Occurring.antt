-- Where literals and choices stand in clauses.
use Rattle.std.specs.Prelude.{ℕ, ◌+◌, List, length, count_by, filter}
use Rattle.std.specs.List.{range_with_len}
use Rattle.laws.specs.Lists.{has}
use Rattle.laws.specs.Tables.{Tab, occurs_in}

-- in how many clauses a literal stands
abbrev pub occurrences : ℕ → List (List ℕ) → ℕ
occurrences l Cs = count_by (has l) Cs

-- the choices that occur, where the last choice is n, in ascending order
abbrev pub occurring : ℕ → List (List ℕ) → List ℕ
occurring n Cs = filter (λ c. occurs_in c Cs) (range_with_len 0 (n + 1))

-- how many choices of a table occur
abbrev pub occurring_count : Tab → ℕ
occurring_count t = length (occurring t.last t.clauses)
