-- What a solver answers for a table.
use Rattle.std.specs.Prelude.{ℕ, List}
use Rattle.laws.specs.declared.fault.Fault.{Fault}

-- a plan, by its bytes, with its work; none, with its work; or a refusal
pub data Outcome : Type 0 where
  planned : List ℕ → ℕ → Outcome
  never : ℕ → Outcome
  refused : Fault → Outcome
