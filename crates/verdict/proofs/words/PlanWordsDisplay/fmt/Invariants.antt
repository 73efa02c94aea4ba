use Rattle.std.proofs.Common.{take}
use Rattle.std.specs.Fmt.{HasWritten, IsPlainFormatter}
use Rattle.verdict.specs.Words.{listed, choice_at}
use Rattle.verdict.proofs.words.PlanWordsDisplay.fmt.Given as goal

abbrev pub invariant-loop-c : goal.invariant-loop-c
invariant-loop-c g l =
    IsPlainFormatter l.initial.f → HasWritten g.W.Write.write_str_gives l.initial.f (listed choice_at 0 (take l.c l.self.plan.now)) l.f
