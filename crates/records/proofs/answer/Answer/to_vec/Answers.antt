-- The Vec's items are the bytes that were written.
use Rattle.std.proofs.Common.{◌≡◌, ◌++◌, length, take, drop, ap, ◌∙◌, arith}
use Rattle.std.proofs.lemmas.Grind.{common_steps}
use Rattle.records.specs.Answers.{decode}
use Rattle.records.proofs.answer.Answer.to_vec.Goals as goal

pub returns-clause-back : goal.returns-clause-back
returns-clause-back c =
    let bytes = c.in_ok-bytes.bytes in
    let now = c.write.new.out in
    let same : take bytes.len (now ++ drop (length now) bytes.items) ≡ take c.in_ok-write.field-0 now = grind (arith, common_steps) in
    ap decode same ∙ c.in_ok-write.ensures.back

pub returns-clause-made : goal.returns-clause-made
returns-clause-made c = (grind (arith, common_steps), grind (arith, common_steps))
