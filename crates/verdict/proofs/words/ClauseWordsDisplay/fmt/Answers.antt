use Rattle.std.proofs.Common.{rules}
use Rattle.std.proofs.Output.{has_written_append, has_written_of_eq}
use Rattle.verdict.specs.Words.{literal_at}
use Rattle.verdict.proofs.Listings.{listed_more}
use Rattle.verdict.proofs.words.ClauseWordsDisplay.fmt.Goals as goal

pub loop-at-preserved : goal.loop-at-preserved
loop-at-preserved g c = λ p.
    has_written_of_eq _ _ _ _ _ (listed_more literal_at c.loop-at.at c.args.self.now.codes.now 0 c.loop-at-test.true)
    (has_written_append _ _ _ _ _ _ (c.loop-at.invariant p) (search rules))
