-- What a solver owes.
use Rattle.std.specs.Prelude.{◌≡◌, ℕ, true, List}
use Rattle.laws.specs.Clauses.{all_true}
use Rattle.laws.specs.Outcomes.{Outcome}
use Rattle.laws.specs.Outcomes.Outcome.{planned, never}
use Rattle.laws.specs.Plans.{PlanOf, Possible}
use Rattle.laws.specs.Tables.{Tab, Lawful}

-- an answer is right for a table: its plan is a plan and makes the table true; none only if no plan does
pub record RightFor (t : Tab) (answer : Outcome) : Type 0 where
  pub is_plan : (p : List ℕ) (w : ℕ) → answer ≡ planned p w → PlanOf t.last p
  pub keeps : (p : List ℕ) (w : ℕ) → answer ≡ planned p w → all_true p t.clauses ≡ true
  pub none : (w : ℕ) → answer ≡ never w → Possible t → ⊥

-- a solver's answers are right for every lawful table
abbrev pub Solves : (Tab → Outcome) → Type 0
Solves answers = (t : Tab) → Lawful t → RightFor t (answers t)
