-- What a table answers of a plan.
use Rattle.std.specs.Prelude.{ℕ, ◌+◌, Bool, cond, List, length, Some, None, Ok, Err, Option, Result, nat_lt}
use Rattle.laws.specs.declared.fault.Fault.{Fault}
use Rattle.laws.specs.Faults.{fault}
use Rattle.laws.specs.Lists.{first}
use Rattle.laws.specs.Literals.{top, holds}

-- a plan or a buffer of fewer bytes than are wanted is refused with 31
abbrev pub enough : ℕ → List ℕ → Result (Unit {0}) Fault
enough bytes p = cond (nat_lt (length p) bytes) (Err (fault 3 31 0)) (Ok tt)

-- a plan of fewer bytes than there are choices is refused with 31; any other is judged
abbrev pub judged : {X : Type 0} → ℕ → List ℕ → X → Result X Fault
judged n p x = cond (nat_lt (length p) (n + 1)) (Err (fault 3 31 0)) (Ok x)

-- of one literal: 31 first, then 12 for a code above the largest
abbrev pub judged_literal : ℕ → List ℕ → ℕ → Result Bool Fault
judged_literal n p l =
    cond (nat_lt (length p) (n + 1)) (Err (fault 3 31 0)) (cond (nat_lt (top n) l) (Err (fault 3 12 0)) (Ok (holds p l)))

-- the first literal of a clause that agrees with the plan, if there is the clause
abbrev pub agreeing_of : List ℕ → Option (List ℕ) → Option ℕ
agreeing_of p None = None
agreeing_of p (Some C) = first (holds p) C
