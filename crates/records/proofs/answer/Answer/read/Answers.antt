-- A tag that no kind has is neither of the three.
use Rattle.std.proofs.Common.{arith}
use Rattle.std.proofs.lemmas.Grind.{common_steps}
use Rattle.records.specs.declared.answer.kind.Kind.TheVariants.{Plan, NoPlan, Refusal}
use Rattle.records.proofs.answer.Answer.read.Goals as goal

pub returns-in_err-kind : goal.returns-in_err-kind
returns-in_err-kind c =
    let none = c.in_err-kind.ensures.0 in
    let plan = none Plan in
    let no_plan = none NoPlan in
    let refusal = none Refusal in
    grind (arith, common_steps)
