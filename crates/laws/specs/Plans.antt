-- Plans: a byte for each choice, 1 for taken and 0 for left out (an assignment).
use Rattle.std.specs.Prelude.{◌≡◌, ℕ, ◌+◌, ◌<◌, ◌≤◌, true, false, not, ◌↔◌, List, [], length, Some, None, All, count_by, slice_index_or}
use Rattle.laws.specs.Lists.{place}
use Rattle.laws.specs.Clauses.{true_in, all_true}
use Rattle.laws.specs.Tables.{Tab}

-- p is a plan where the last choice is n
pub record PlanOf (n : ℕ) (p : List ℕ) : Type 0 where
  pub long : length p ≡ n + 1
  pub bytes : All (λ b. b ≤ 1) p

-- some plan makes the table true (the formula is satisfiable)
pub record Possible (t : Tab) : Type 0 where
  pub plan : List ℕ
  pub is_plan : PlanOf t.last plan
  pub keeps : all_true plan t.clauses ≡ true

-- how many clauses a plan makes false
abbrev pub broken : List ℕ → List (List ℕ) → ℕ
broken p Cs = count_by (λ C. not (true_in p C)) Cs

-- the place of the first clause that a plan makes false
pub record FirstBroken (p : List ℕ) (Cs : List (List ℕ)) (i : ℕ) : Type 0 where
  pub inside : i < length Cs
  pub here : true_in p (slice_index_or Cs i []) ≡ false
  pub before : (j : ℕ) → j < i → true_in p (slice_index_or Cs j []) ≡ true

-- the count of the false clauses, the place of the first and the whole answer go together: none is counted and none is
-- found exactly if the plan makes all clauses true
pub record Breaks (p : List ℕ) (Cs : List (List ℕ)) : Type 0 where
  pub at_most : broken p Cs ≤ length Cs
  pub none_counted : (broken p Cs ≡ 0) ↔ (all_true p Cs ≡ true)
  pub none_found : (place (λ C. not (true_in p C)) Cs ≡ None) ↔ (all_true p Cs ≡ true)
  pub found : (i : ℕ) → place (λ C. not (true_in p C)) Cs ≡ Some i → FirstBroken p Cs i

-- this holds of every plan and all clauses
abbrev pub Breakage : Type 0
Breakage = (p : List ℕ) (Cs : List (List ℕ)) → Breaks p Cs
