-- The text of an audit, line by line, as bytes. Each line ends with a newline.
use Rattle.std.specs.Prelude.{ℕ, ◌+◌, ◌≤◌, List, [], ◌++◌, length, Some, None, codes, decimal, Option}
use Rattle.laws.specs.declared.fault.Fault.{Fault}
use Rattle.std.specs.Option.{option_map}
use Rattle.laws.specs.Clauses.{literals}
use Rattle.laws.specs.Lists.{first}
use Rattle.laws.specs.Literals.{holds}
use Rattle.laws.specs.Meanings.{fault_words, meaning_of}
use Rattle.laws.specs.Outcomes.{Outcome, planned, never, refused}
use Rattle.verdict.specs.declared.verdict.Verdict.{Verdict}
use Rattle.verdict.specs.declared.verdict.Verdict.TheVariants.{Keeps, Breaks, Nothing}
use Rattle.verdict.specs.Hours.{Asked}
use Rattle.verdict.specs.Words.{listed, clause_words, truth_words, plan_words}

-- `choices 8, clauses 7, literals 14, pins 1`, of these four numbers
abbrev pub counts_words : ℕ → ℕ → ℕ → ℕ → List ℕ
counts_words a b c d =
    codes "choices " ++ (decimal a ++ (codes ", clauses " ++ (decimal b
    ++ (codes ", literals " ++ (decimal c ++ (codes ", pins " ++ decimal d))))))

-- how many choices, clauses, literals and pins there are
abbrev pub hour_words : Asked → List ℕ
hour_words h =
    counts_words (h.clauses.last + 1) (length h.clauses.clauses) (literals h.clauses.clauses) (length h.pins.clauses)

-- `sheet: choices 8, clauses 7, literals 14, pins 1`
abbrev pub size_line : Asked → List ℕ
size_line h = codes "sheet: " ++ (hour_words h ++ codes "\n")

-- the plan of an outcome, if it has one
abbrev pub plan_of : Outcome → Option (List ℕ)
plan_of (planned p work) = Some p
plan_of (never work) = None
plan_of (refused f) = None

-- a plan, if there is one, has at least one byte for each choice up to n
abbrev pub Long : ℕ → Option (List ℕ) → Type 0
Long n None = Unit {0}
Long n (Some p) = n + 1 ≤ length p

-- what stands behind a clause's literals, as `: true by take 0`, of its first literal that agrees with the plan, if any;
-- without a plan nothing
abbrev pub truth_behind : Option (Option ℕ) → List ℕ
truth_behind None = []
truth_behind (Some agreeing) = codes ": " ++ truth_words agreeing

-- the line of the clause at a position, as `clause 0: take 0 or take 1: true by take 0`
abbrev pub line_words : List ℕ → ℕ → List ℕ → Option (Option ℕ) → List ℕ
line_words kind i C truth =
    kind ++ (codes " " ++ (decimal i ++ (codes ": " ++ (clause_words C ++ (truth_behind truth ++ codes "\n")))))

-- the same, with what a plan makes of the clause, if there is one
abbrev pub line_at : List ℕ → Option (List ℕ) → ℕ → List ℕ → List ℕ
line_at kind p i C = line_words kind i C (option_map (λ q. first (holds q) C) p)

-- a line for each clause
abbrev pub table_lines : List ℕ → Option (List ℕ) → List (List ℕ) → List ℕ
table_lines kind p Cs = listed (line_at kind p) 0 Cs

-- a fault's five numbers, and behind them a line that says what the number means
abbrev pub refusal_words : Fault → List ℕ
refusal_words f =
    codes "refused, " ++ (fault_words f ++ (codes "\n" ++ (decimal f.number ++ (codes ": " ++ meaning_of f.number))))

-- a plan's work and what it takes, `none, work 256`, or the refusal
abbrev pub answer_words : Outcome → List ℕ
answer_words (planned p work) = codes "a plan, work " ++ (decimal work ++ (codes ", taking" ++ plan_words p))
answer_words (never work) = codes "none, work " ++ decimal work
answer_words (refused f) = refusal_words f

-- `answer: a plan, work 0, taking 0 2`; a refusal takes two lines
abbrev pub answer_lines : Outcome → List ℕ
answer_lines o = codes "answer: " ++ (answer_words o ++ codes "\n")

-- the verdict in words
abbrev pub verdict_words : Verdict → List ℕ
verdict_words Keeps = codes "the plan keeps the sheet"
verdict_words (Breaks n m) = codes "the plan breaks " ++ (decimal n ++ (codes " of " ++ decimal m))
verdict_words Nothing = codes "no plan, so there is nothing to hold"

-- `verdict: the plan keeps the sheet`
abbrev pub verdict_line : Verdict → List ℕ
verdict_line v = codes "verdict: " ++ (verdict_words v ++ codes "\n")

-- the sheet's size, a line for each clause and then each pin, the answer and the verdict
abbrev pub report_text : Asked → Outcome → Verdict → List ℕ
report_text h o v =
    size_line h
    ++ (table_lines (codes "clause") (plan_of o) h.clauses.clauses
    ++ (table_lines (codes "pin") (plan_of o) h.pins.clauses
    ++ (answer_lines o ++ verdict_line v)))
