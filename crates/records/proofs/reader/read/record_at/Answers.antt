-- What is read at an offset where one of the last three checks fails, and where all are passed.
use Rattle.std.proofs.Common.{◌≡◌, true, sym, ap, ◌∙◌, arith}
use Rattle.std.proofs.lemmas.Grind.{common_steps}
use Rattle.records.specs.Reading.{read_at, refuses, gives, tag_at, size_at, behind, entry_at, is_fit}
use Rattle.records.specs.Tags.{tag_number}
use Rattle.records.proofs.Readings.{at_53, at_54, at_55, at_record}
use Rattle.records.proofs.reader.read.record_at.Goals as goal

ruleset steps = (arith, common_steps)

pub returns-then-eq-at-clause-came : goal.returns-then-eq-at-clause-came
returns-then-eq-at-clause-came c =
    ap refuses c.refusal-then-eq-at.ensures
    ∙ sym (at_53 c.args.src.now c.args.at (grind steps) (grind steps) (grind steps) (grind steps))

pub returns-then-not-fits-clause-came : goal.returns-then-not-fits-clause-came
returns-then-not-fits-clause-came c =
    ap refuses c.refusal-then-not-fits.ensures
    ∙ sym (at_54 c.args.src.now c.args.at (grind steps) (grind steps) (grind steps) (grind steps) (grind steps))

pub returns-then-rest-size-2-clause-came : goal.returns-then-rest-size-2-clause-came
returns-then-rest-size-2-clause-came c =
    ap refuses c.refusal-then-rest-size-2.ensures
    ∙ sym (at_55 c.args.src.now c.args.at (grind steps) (grind steps) (grind steps) (grind steps) (grind steps) (grind steps))

pub returns-clause-came : goal.returns-clause-came
returns-clause-came c =
    let file = c.args.src.now in
    let at = c.args.at in
    let tag : tag_at file at ≡ tag_number c.in_ok-tag.tag = grind steps in
    let size : size_at file at ≡ c.from-size.result = grind steps in
    let fit : is_fit (tag_at file at) (size_at file at) ≡ true = rw (tag, size) (sym c.if-not-fits.ensures) in
    let here : read_at file at ≡ gives (entry_at file at) (behind file at) =
    at_record file at (grind steps) (grind steps) (grind steps) (grind steps) fit (grind steps) in
    grind (steps, here)
