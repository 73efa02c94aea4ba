-- The lister: tries the plans over the occurring choices in counting order.
use Rattle.std.specs.Prelude.{◌≡◌, ℕ, zero, suc, ◌+◌, ◌/◌, ◌%◌, ◌^◌, ◌<◌, ◌≤◌, true, false, cond, ◌↔◌, List, [], ◌∷◌, nat_le, slice_index, slice_set}
use Rattle.laws.specs.Clauses.{all_true}
use Rattle.laws.specs.Faults.{fault}
use Rattle.laws.specs.Occurring.{occurring, occurring_count}
use Rattle.laws.specs.Outcomes.{Outcome}
use Rattle.laws.specs.Outcomes.Outcome.{planned, never, refused}
use Rattle.laws.specs.Solvers.{Solves}
use Rattle.laws.specs.Splitter.{blank}
use Rattle.laws.specs.Tables.{Tab, Lawful, occurs_in}

-- a plan with the number's bits written to the choices, the lowest choice having the lowest bit
abbrev pub numbered : ℕ → List ℕ → List ℕ → List ℕ
numbered m [] p = p
numbered m (c ∷ cs) p = slice_set (numbered (m / 2) cs p) c (m % 2)

-- plan number m of a table, in counting order over the occurring choices; other choices are left out
abbrev pub plan_no : Tab → ℕ → List ℕ
plan_no t m = numbered m (occurring t.last t.clauses) (blank t.last)

-- the first plan that makes the table true, among k from number m on, where work is the number of plans tried
unfoldable pub tries : ℕ → ℕ → Tab → Outcome
tries zero m t = never m
tries (suc k) m t = cond (all_true (plan_no t m) t.clauses) (planned (plan_no t m) (m + 1)) (tries k (m + 1) t)

-- the lister's answer: 42 if more than 16 choices occur, their number as place
unfoldable pub lister : Tab → Outcome
lister t =
    cond (nat_le (occurring_count t) 16) (tries (2 ^ occurring_count t) 0 t) (refused (fault 3 42 (occurring_count t)))

-- in the subject's words: plan number m is the first in counting order that makes the table true
pub record FirstPlan (t : Tab) (m : ℕ) : Type 0 where
  pub inside : m < 2 ^ occurring_count t
  pub keeps : all_true (plan_no t m) t.clauses ≡ true
  pub before : (k : ℕ) → k < m → all_true (plan_no t k) t.clauses ≡ false

-- no plan in counting order makes the table true
abbrev pub NoPlan : Tab → Type 0
NoPlan t = (k : ℕ) → k < 2 ^ occurring_count t → all_true (plan_no t k) t.clauses ≡ false

-- what the lister says of a table: 42 exactly if more than 16 choices occur; else the first plan in counting order, its
-- number and one being the work; or none, having tried all
pub record ListsOf (t : Tab) : Type 0 where
  pub refuses : (lister t ≡ refused (fault 3 42 (occurring_count t))) ↔ (16 < occurring_count t)
  pub finds : (m : ℕ) → occurring_count t ≤ 16 → FirstPlan t m → lister t ≡ planned (plan_no t m) (m + 1)
  pub none : occurring_count t ≤ 16 → NoPlan t → lister t ≡ never (2 ^ occurring_count t)
  pub found :
      (p : List ℕ) (w : ℕ) → lister t ≡ planned p w
      → (m : ℕ) × (p ≡ plan_no t m) × (w ≡ m + 1) × FirstPlan t m
  pub found_none : (w : ℕ) → lister t ≡ never w → (w ≡ 2 ^ occurring_count t) × NoPlan t

-- plan number m takes an occurring choice exactly if the choice's bit is 1, where its bit is that of its rank among the
-- occurring choices
abbrev pub Bits : Tab → Type 0
Bits t =
    (m i : ℕ) → i < occurring_count t
    → slice_index (plan_no t m) (slice_index (occurring t.last t.clauses) i) ≡ (m / 2 ^ i) % 2

-- the lister says this of every lawful table; its plans leave out each choice that does not occur; and its answers are
-- right
pub record ListerLaw : Type 0 where
  pub lists : (t : Tab) → Lawful t → ListsOf t
  pub bits : (t : Tab) → Lawful t → Bits t
  pub left_out : (t : Tab) (m c : ℕ) → Lawful t → occurs_in c t.clauses ≡ false → slice_index (plan_no t m) c ≡ 0
  pub right : Solves lister
