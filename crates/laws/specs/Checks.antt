-- The checks that a clause meets before it is taken, in their order.
use Rattle.std.specs.Prelude.{ℕ, ◌+◌, Bool, cond, ◌&&◌, ltb, List, [], ◌∷◌, ◌++◌, length, Some, None, Option, nat_eq, nat_le, nat_lt}
use Rattle.std.specs.Option.{option_map}
use Rattle.laws.specs.declared.fault.Fault.{Fault}
use Rattle.laws.specs.Faults.{fault}
use Rattle.laws.specs.Lists.{any, place, or_else}
use Rattle.laws.specs.Literals.{choice, top}

-- the place of the first code, counted from i, whose choice stands among those before it
abbrev pub repeat_from : List ℕ → ℕ → List ℕ → Option ℕ
repeat_from seen i [] = None
repeat_from seen i (x ∷ xs) =
    cond (any (λ y. nat_eq (choice y) (choice x)) seen) (Some i) (repeat_from (seen ++ x ∷ []) (i + 1) xs)

-- a fault unless the test holds
abbrev pub unless : Bool → Fault → Option Fault
unless b f = cond b None (Some f)

-- who checks, and how many clauses and literals may stand at most
pub record Limits : Type 0 where
  pub layer : ℕ
  pub clauses : ℕ
  pub literals : ℕ

-- the first check that a list of codes fails, where the last choice is n and so many clauses and literals stand:
-- 11 it has 1 to 256 codes; 12 no code is above the largest (place: the first that is); 13 each choice stands once
-- (place: the first code whose choice stood before it); 14 fewer clauses stand than may; 15 no more literals would
-- stand than may
abbrev pub refusal : Limits → ℕ → ℕ → ℕ → List ℕ → Option Fault
refusal most n clauses literals codes =
    or_else (unless (nat_lt 0 (length codes) && nat_le (length codes) 256) (fault most.layer 11 0))
    (or_else (option_map (fault most.layer 12) (place (λ l. ltb (top n) l) codes))
    (or_else (option_map (fault most.layer 13) (repeat_from [] 0 codes))
    (or_else (unless (nat_lt clauses most.clauses) (fault most.layer 14 0))
    (unless (nat_le (literals + length codes) most.literals) (fault most.layer 15 0)))))

-- a table's own limits
abbrev pub table_limits : Limits
table_limits = record { layer = 3; clauses = 1024; literals = 8192 }
