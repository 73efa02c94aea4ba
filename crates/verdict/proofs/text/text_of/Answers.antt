-- The lines, one behind the other; the plan that they are made with is the answer's.
use Rattle.std.proofs.Common.{codes, ap, ◌∙◌, ◌++◌}
use Rattle.std.proofs.lemmas.Result.{IfOk-weaker}
use Rattle.table.specs.Held.{clauses_of}
use Rattle.records.specs.Answers.{answer_of}
use Rattle.verdict.specs.Hours.{asked_of}
use Rattle.verdict.specs.Texts.{hour_words, table_lines, answer_words, verdict_words, size_line, answer_lines, verdict_line}
use Rattle.verdict.proofs.Laid.{text_is}
use Rattle.verdict.proofs.text.text_of.Goals as goal

pub returns : goal.returns
returns c =
    let h = c.args.hour.now in
    let o = answer_of c.args.answer.now in
    let v = c.args.verdict in
    IfOk-weaker c.format.result _ _
    (λ s made. made ∙ text_is (hour_words (asked_of h)) _ _ (answer_words o) (verdict_words v)
    ∙ ap (λ p. size_line (asked_of h) ++ (table_lines (codes "clause") p (clauses_of h.clauses)
    ++ (table_lines (codes "pin") p (clauses_of h.pins) ++ (answer_lines o ++ verdict_line v)))) c.plan-plan.ensures)
    c.format.ensures.ok
