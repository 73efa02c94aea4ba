use Rattle.std.proofs.Common.{take}
use Rattle.std.specs.Fmt.{HasWritten, IsPlainFormatter}
use Rattle.verdict.specs.Words.{listed, literal_at}
use Rattle.verdict.proofs.words.ClauseWordsDisplay.fmt.Given as goal

abbrev pub invariant-loop-at : goal.invariant-loop-at
invariant-loop-at g l =
    IsPlainFormatter l.initial.f → HasWritten g.W.Write.write_str_gives l.initial.f (listed literal_at 0 (take l.at l.self.codes.now)) l.f
