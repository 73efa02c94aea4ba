-- A number that no check has means what is said of an unknown one.
use Rattle.std.proofs.Common.{sym}
use Rattle.std.proofs.Output.{has_written_of_eq}
use Rattle.verdict.proofs.Meanings.{unknown_meaning}
use Rattle.verdict.proofs.words.MeaningDisplay.fmt.Goals as goal

pub returns-in-Err-clause-writes : goal.returns-in-Err-clause-writes
returns-in-Err-clause-writes g c = λ p ok.
    has_written_of_eq _ _ _ _ _ (sym (unknown_meaning c.args.self.now.0 c.in-Err.ensures.0)) (c.write-in-Err.ensures.writes p ok)
