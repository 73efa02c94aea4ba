-- What comes of a solve, and what the buffer is after it.
use Rattle.std.specs.Prelude.{◌≡◌, ℕ, ◌+◌, false, cond, List, ◌++◌, length, drop, Ok, Err, Result, nat_lt}
use Rattle.laws.specs.Faults.{fault}
use Rattle.laws.specs.Outcomes.{Outcome}
use Rattle.laws.specs.Outcomes.Outcome.{planned, never, refused}
use Rattle.laws.specs.Piles.{deeper}
use Rattle.laws.specs.Tables.{Tab}
use Rattle.table.specs.declared.error.Error.{Error}
use Rattle.table.specs.declared.error.Error.TheVariants.{Refused, Memory}
use Rattle.pile.specs.declared.answer.Answer.{Answer}
use Rattle.pile.specs.declared.answer.Answer.TheVariants.{Plan, Never}

-- the answer for a table with this buffer: 31 comes before all else
abbrev pub answered : (Tab → Outcome) → Tab → List ℕ → Outcome
answered answers t b = cond (nat_lt (length b) (t.last + 1)) (refused (fault 3 31 0)) (answers t)

-- what a solve of table t by these answers gives, and the buffer before and after it. The code's cases are the answer's:
-- `Plan` with its work, whose bytes stand at the buffer's front; `Never` with its work; `Refused` with its fault. Want of
-- memory comes only where the buffer is long enough
abbrev pub Came : Tab → (Tab → Outcome) → List ℕ → Result Answer Error → List ℕ → Type 0
Came t answers b (Ok (Plan w)) a =
    (p : List ℕ) × (answered answers t b ≡ planned p w) × (a ≡ p ++ drop (t.last + 1) b)
Came t answers b (Ok (Never w)) a = (answered answers t b ≡ never w) × (a ≡ b)
Came t answers b (Err (Refused f)) a = (answered answers t b ≡ refused f) × (a ≡ b)
Came t answers b (Err Memory) a = (nat_lt (length b) (t.last + 1) ≡ false) × (a ≡ b)

-- a refusal from below is one deeper, resting at 255; all else passes as it is
abbrev pub raised_result : Result Answer Error → Result Answer Error
raised_result (Ok a) = Ok a
raised_result (Err (Refused f)) = Err (Refused (deeper 1 f))
raised_result (Err Memory) = Err Memory
