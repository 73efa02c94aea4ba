-- What a reduction means and what it owes.
use Rattle.std.specs.Prelude.{◌≡◌, ℕ, ◌≤◌, true, List, length}
use Rattle.laws.specs.Clauses.{all_true, literals}
use Rattle.laws.specs.Plans.{PlanOf, Possible}
use Rattle.laws.specs.Tables.{Tab, Lawful}

-- for each table a smaller table, and a way back from plans to plans (model reconstruction)
pub record ReductionMeaning : Type 0 where
  pub smaller : Tab → Tab
  pub back : Tab → List ℕ → List ℕ

-- u has the last choice of t, no more clauses and no more literals
pub record NoLarger (t u : Tab) : Type 0 where
  pub same_last : u.last ≡ t.last
  pub no_more_clauses : length u.clauses ≤ length t.clauses
  pub no_more_literals : literals u.clauses ≤ literals t.clauses

-- what a reduction shows of a table. Its smaller table is a table, and its way back leads plans to plans: that much its
-- meaning is by its kind. Then the three points: a plan of the smaller table led back makes the table true; if some plan
-- makes the table true, some plan, maybe another one, makes the smaller one true; the smaller one is no larger
pub record Points (r : ReductionMeaning) (t : Tab) : Type 0 where
  pub table : Lawful (r.smaller t)
  pub plans : (p : List ℕ) → PlanOf t.last p → PlanOf t.last (r.back t p)
  pub back :
      (p : List ℕ) → PlanOf t.last p → all_true p (r.smaller t).clauses ≡ true
      → all_true (r.back t p) t.clauses ≡ true
  pub possible : Possible t → Possible (r.smaller t)
  pub no_larger : NoLarger t (r.smaller t)

-- a reduction shows this of every lawful table
abbrev pub Reduces : ReductionMeaning → Type 0
Reduces r = (t : Tab) → Lawful t → Points r t
