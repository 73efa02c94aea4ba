-- Which answers are right for a table.
use Rattle.std.proofs.Common.{◌≡◌, ℕ, true, List, subst}
use Rattle.laws.specs.declared.fault.Fault.{Fault}
use Rattle.laws.specs.Clauses.{all_true}
use Rattle.laws.specs.Outcomes.Outcome.{planned, never, refused}
use Rattle.laws.specs.Plans.{PlanOf, Possible}
use Rattle.laws.specs.Solvers.{RightFor}
use Rattle.laws.specs.Tables.{Tab}
use Rattle.laws.proofs.Options.{no}

module _ (t : Tab) where
  -- a plan that makes the table true
  pub right_planned : (p : List ℕ) (w : ℕ) → PlanOf t.last p → all_true p t.clauses ≡ true → RightFor t (planned p w)
  right_planned p w is keeps =
      record {
        is_plan = λ q v e. let same : p ≡ q = cc in subst (PlanOf t.last) same is;
        keeps = λ q v e. let same : p ≡ q = cc in subst (λ x. all_true x t.clauses ≡ true) same keeps;
        none = λ v e. no (cc);
      }

  -- none, if no plan does
  pub right_never : (w : ℕ) → (Possible t → ⊥) → RightFor t (never w)
  right_never w none = record { is_plan = λ q v e. no (cc); keeps = λ q v e. no (cc); none = λ v e. none }

  -- every refusal
  pub right_refused : (f : Fault) → RightFor t (refused f)
  right_refused f = record { is_plan = λ q v e. no (cc); keeps = λ q v e. no (cc); none = λ v e. no (cc) }
