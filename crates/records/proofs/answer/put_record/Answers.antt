use Rattle.std.proofs.Common.{◌+◌, ◌-◌, ◌++◌, length, drop, refl, arith}
use Rattle.std.proofs.lemmas.Grind.{common_steps}
use Rattle.std.proofs.lemmas.Slice.{put_mid-paste}
use Rattle.records.proofs.AnswerBytes.{over_framed}
use Rattle.records.specs.Kinds.{kind_number}
use Rattle.records.proofs.answer.put_record.Goals as goal

pub returns-clause-after : goal.returns-clause-after
returns-clause-after c =
    let b = c.args.out.now in
    let head = c.copy_from_slice.new.self in
    let xs = c.args.first.now in
    let ys = c.args.rest.now in
    let n = 3 + length xs in
    over_framed b _ _ head (kind_number c.args.kind) xs ys (grind (arith, common_steps))
    (put_mid-paste 3 (n - 3) (head ++ drop 3 b) _ xs (length xs) c.copy_from_slice-2.ensures.after (omega arith) refl)
    (put_mid-paste n (3 + (length xs + length ys) - n) _ _ ys (length ys) c.copy_from_slice-3.ensures.after (omega arith) refl)
