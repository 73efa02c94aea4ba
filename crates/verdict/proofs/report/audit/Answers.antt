-- Both files are read, the answer is held, and the text is made.
use Rattle.std.proofs.Common.{sym}
use Rattle.records.specs.Answers.{answer_of}
use Rattle.verdict.specs.Hours.{asked_of}
use Rattle.verdict.proofs.Keeping.{kept_exactly}
use Rattle.verdict.proofs.report.audit.Goals as goal

pub returns : goal.returns
returns c =
    let h = asked_of c.in_ok-hour.hour in
    let o = answer_of c.in_ok-found.found in
    let held = sym c.in_ok-verdict.ensures in
    record {
      asked = h;
      outcome = o;
      sheet_read = c.in_ok-hour.ensures;
      answer_read = sym c.in_ok-found.ensures.value;
      judged = held;
      keeps = kept_exactly h o c.in_ok-verdict.verdict held;
      said = c.in_ok-text.ensures;
    }
