use Rattle.std.proofs.Common.{rules}
use Rattle.std.proofs.Output.{has_written_append, has_written_of_eq}
use Rattle.verdict.specs.Words.{choice_at}
use Rattle.verdict.proofs.Listings.{listed_more}
use Rattle.verdict.proofs.words.PlanWordsDisplay.fmt.Goals as goal

pub loop-c-preserved : goal.loop-c-preserved
loop-c-preserved g c = λ p.
    has_written_of_eq _ _ _ _ _ (listed_more choice_at c.loop-c.c c.args.self.now.plan.now 0 c.loop-c-test.true)
    (has_written_append _ _ _ _ _ _ (c.loop-c.invariant p) (search rules))
