-- The reader moves on, and the count goes on by the law of the run.
use Rattle.std.proofs.Common.{sym, ap, ◌∙◌, arith}
use Rattle.std.proofs.lemmas.Grind.{common_steps}
use Rattle.records.specs.Entries.{entry_of}
use Rattle.records.specs.Reading.{gives}
use Rattle.records.specs.Script.{counted}
use Rattle.records.proofs.Scripts.{read_here, script_more}
use Rattle.records.proofs.run.scan.Goals as goal

pub loop-next-preserved : goal.loop-next-preserved
loop-next-preserved c =
    let at = c.loop-next.reader.pos in
    let read = gives (entry_of c.in_ok-next.next) c.read.new.self.pos in
    let here = read_here _ c.loop-next.reader.src.now at read c.loop-next.invariant.0 c.in_ok-next.ensures.came in (
      c.in_ok-next.ensures.same ∙ c.loop-next.invariant.0,
      grind (arith, common_steps),
      sym (ap (counted c.loop-next.count) (script_more _ at _ _ here (sym c.if-is_end.ensures))) ∙ c.loop-next.invariant.2,
    )
