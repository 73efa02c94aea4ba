use Rattle.std.proofs.Common.{◌≡◌, ◌++◌, None, ap, arith}
use Rattle.std.proofs.lemmas.Grind.{common_steps}
use Rattle.laws.specs.Outcomes.{planned}
use Rattle.records.specs.Answers.{flaw_of}
use Rattle.records.specs.Bytes.{framed}
use Rattle.records.proofs.AnswerWrites.{back_at}
use Rattle.records.proofs.answer.Answer.write.Goals as goal

pub returns-in_ok-check_plan-in-Plan-clause-back : goal.returns-in_ok-check_plan-in-Plan-clause-back
returns-in_ok-check_plan-in-Plan-clause-back c =
    let plan = c.in-Plan.plan.now in
    let was = c.put_record.ensures in
    let sound : flaw_of plan ≡ None = grind (arith, common_steps) in
    let back = back_at (planned plan c.in-Plan.work) _ _ c.args.out.now _ (omega arith) sound (ap (λ work. framed 0x21 (work ++ plan)) c.to_be_bytes-work.ensures) was.value was.after in
    rw c.in-Plan.is back
