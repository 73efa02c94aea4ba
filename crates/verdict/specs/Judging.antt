-- The verdict on an answer.
use Rattle.std.specs.Prelude.{ℕ, ◌+◌, cond, List, ◌++◌, length, Ok, Err, Result, ◌==◌}
use Rattle.laws.specs.Outcomes.{Outcome, planned, never, refused}
use Rattle.laws.specs.Plans.{broken}
use Rattle.verdict.specs.declared.failure.Failure.{Failure}
use Rattle.verdict.specs.declared.failure.Failure.TheVariants.{PlanLength}
use Rattle.verdict.specs.declared.verdict.Verdict.{Verdict}
use Rattle.verdict.specs.declared.verdict.Verdict.TheVariants.{Keeps, Breaks, Nothing}
use Rattle.verdict.specs.Hours.{Asked}

-- everything that a plan must make true: the clauses, then the pins
abbrev pub all_of : Asked → List (List ℕ)
all_of h = h.clauses.clauses ++ h.pins.clauses

-- a plan keeps the hour, or breaks so many of all
abbrev pub counted : ℕ → ℕ → Verdict
counted n m = cond (n == 0) Keeps (Breaks n m)

-- the verdict: a plan needs one byte for each choice; without a plan there is nothing to hold
abbrev pub judge : Asked → Outcome → Result Verdict Failure
judge h (planned p work) =
    cond (length p == h.clauses.last + 1) (Ok (counted (broken p (all_of h)) (length (all_of h)))) (Err (PlanLength (length p) (h.clauses.last + 1)))
judge h (never work) = Ok Nothing
judge h (refused f) = Ok Nothing
