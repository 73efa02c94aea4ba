-- The two tables' counts give the verdict; neither refuses, since the plan has one byte for each choice.
use Rattle.std.proofs.Common.{◌≡◌, ◌+◌, length, Ok, sym, ap, ◌∙◌, arith}
use Rattle.records.specs.Answers.{answer_of}
use Rattle.table.specs.Held.{clauses_of}
use Rattle.verdict.specs.Hours.{asked_of}
use Rattle.verdict.specs.Judging.{judge}
use Rattle.verdict.proofs.Counts.{judged_is, judge_plan}
use Rattle.verdict.proofs.hour.Hour.hold.Goals as goal

pub returns : goal.returns
returns c =
    let p = c.in-Plan.plan.now in
    let h = c.args.self.now in
    let long : length p ≡ h.clauses.last + 1 = omega (arith, c.choice_count-wants.ensures.count) in
    let a = judged_is h.clauses.last p _ _ (omega arith) c.in_ok-clauses.ensures in
    let b = judged_is h.pins.last p _ _ (omega (arith, h.same)) c.in_ok-pins.ensures in
    let of : c.clause_count.result + c.clause_count-2.result ≡ length (clauses_of h.clauses) + length (clauses_of h.pins) =
    omega (arith, c.clause_count.ensures, c.clause_count-2.ensures) in
    ap Ok c.verdict_on.ensures
    ∙ judge_plan (asked_of h) p c.in-Plan.work _ _ _ long a b of
    ∙ sym (ap (λ x. judge (asked_of h) (answer_of x)) c.in-Plan.is)
