-- What an audit of a sheet file and an answer record comes to.
use Rattle.std.specs.Prelude.{◌≡◌, ℕ, ◌+◌, ◌↔◌, List, length, Ok, Err, string_bytes, Result}
use Rattle.laws.specs.Clauses.{Keeps}
use Rattle.laws.specs.Outcomes.{Outcome, planned, never, refused}
use Rattle.records.specs.Answers.{decode}
use Rattle.verdict.specs.declared.failure.Failure.{Failure}
use Rattle.verdict.specs.declared.failure.Failure.TheVariants.{Sheet, Answer, PlanLength, Memory}
use Rattle.verdict.specs.declared.report.Report.{Report}
use Rattle.verdict.specs.declared.verdict.Verdict.TheVariants as verdicts
use Rattle.verdict.specs.Hours.{Asked, done, stopped}
use Rattle.verdict.specs.Judging.{judge, all_of}
use Rattle.verdict.specs.Loading.{Loads}
use Rattle.verdict.specs.Texts.{report_text}

-- the answer is a plan with one byte for each choice, and for every clause and pin there is a literal that agrees with it
abbrev pub Kept : Asked → Outcome → Type 0
Kept h (planned p work) = (length p ≡ h.clauses.last + 1) × Keeps p (all_of h)
Kept h (never work) = ⊥
Kept h (refused f) = ⊥

-- both files are read, and this is the report: its verdict says that the plan keeps the sheet exactly if it does
pub record Held (sheet answer : List ℕ) (r : Report) : Type 0 where
  pub asked : Asked
  pub outcome : Outcome
  pub sheet_read : Loads sheet (done asked)
  pub answer_read : decode answer ≡ Ok outcome
  pub judged : judge asked outcome ≡ Ok r.verdict
  pub keeps : (r.verdict ≡ verdicts.Keeps) ↔ Kept asked outcome
  pub said : string_bytes r.text ≡ report_text asked outcome r.verdict

-- the sheet is refused; or it is read and the answer record is broken; or the plan has another length than the sheet
-- asks; or both are held. Want of memory says nothing of the files
abbrev pub Reported : List ℕ → List ℕ → Result Report Failure → Type 0
Reported sheet answer (Ok r) = Held sheet answer r
Reported sheet answer (Err (Sheet f)) = Loads sheet (stopped f)
Reported sheet answer (Err (Answer e)) = (h : Asked) × Loads sheet (done h) × (decode answer ≡ Err e)
Reported sheet answer (Err (PlanLength has wants)) =
    (h : Asked) × (o : Outcome) × Loads sheet (done h) × (decode answer ≡ Ok o) × (judge h o ≡ Err (PlanLength has wants))
Reported sheet answer (Err Memory) = Unit {0}
