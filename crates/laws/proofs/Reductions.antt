-- Tables no larger than another: they are lawful if their clauses are; and what some plan still makes true.
use Rattle.std.proofs.Common.{◌≡◌, ℕ, true, List, refl, ◌∙◌, arith}
use Rattle.laws.specs.Clauses.{all_true, lawful}
use Rattle.laws.specs.Lists.{every}
use Rattle.laws.specs.Plans.{Possible}
use Rattle.laws.specs.Reductions.{NoLarger}
use Rattle.laws.specs.Tables.{Tab, Lawful}

pub no_larger_itself : (t : Tab) → NoLarger t t
no_larger_itself t = record { same_last = refl; no_more_clauses = omega arith; no_more_literals = omega arith }

pub no_larger_trans : (t u v : Tab) → NoLarger t u → NoLarger u v → NoLarger t v
no_larger_trans t u v a b =
    record { same_last = b.same_last ∙ a.same_last; no_more_clauses = omega arith; no_more_literals = omega arith }

-- a table no larger than a lawful one is lawful if its clauses are
pub no_larger_lawful : (t u : Tab) → Lawful t → NoLarger t u → every (lawful u.last) u.clauses ≡ true → Lawful u
no_larger_lawful t u ok less each =
    record { last_choice = omega arith; each = each; few = omega arith; small = omega arith }

-- some plan makes clauses true if each plan that makes the table true does
pub still_possible :
    (t : Tab) (Ds : List (List ℕ)) → ((p : List ℕ) → all_true p t.clauses ≡ true → all_true p Ds ≡ true) → Possible t
    → Possible (record { last = t.last; clauses = Ds })
still_possible t Ds h can = record { plan = can.plan; is_plan = can.is_plan; keeps = h can.plan can.keeps }
