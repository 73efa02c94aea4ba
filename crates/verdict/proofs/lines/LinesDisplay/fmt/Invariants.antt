use Rattle.std.proofs.Common.{take, ◌≡◌, vec_items}
use Rattle.std.specs.Fmt.{HasWritten, IsPlainFormatter}
use Rattle.std.specs.Option.{option_map}
use Rattle.table.specs.Held.{clauses_of}
use Rattle.verdict.specs.Texts.{line_at}
use Rattle.verdict.specs.Words.{listed}
use Rattle.verdict.proofs.lines.LinesDisplay.fmt.Given as goal

abbrev pub invariant-loop-at : goal.invariant-loop-at
invariant-loop-at g l =
    (l.clause-items ≡ vec_items l.self.table.now.clauses)
    × (IsPlainFormatter l.initial.f → HasWritten g.W.Write.write_str_gives l.initial.f
    (listed (line_at l.self.kind.now (option_map (λ x. x.now) l.self.plan)) 0 (take l.at (clauses_of l.self.table.now))) l.f)
