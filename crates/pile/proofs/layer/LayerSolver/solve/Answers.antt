-- After a plan from below the way back is led through the buffer; the other ways out are found by search.
use Rattle.std.proofs.Common.{ltb, length, Ok, sym, ap, ◌∙◌, subst}
use Rattle.laws.specs.Piles.{over, answer_of}
use Rattle.laws.proofs.Piles.{pile_law}
use Rattle.table.specs.Held.{tab_of}
use Rattle.pile.specs.Came.{Came}
use Rattle.pile.proofs.Layers.{long_enough, was_answer, plan_led_back}
use Rattle.pile.proofs.layer.LayerSolver.solve.Goals as goal

pub returns-in_ok-rebuild-clause-came : goal.returns-in_ok-rebuild-clause-came
returns-in_ok-rebuild-clause-came g c =
    let t = tab_of c.args.table.now in
    let b = c.args.plan.now in
    let m = g.R.Reduction.meaning c.args.self.now.reduction in
    let s = g.S.Solver.pile c.args.self.now.solver in
    let sound = g.met.S.Solver.sound c.args.self.now.solver in
    let right = pile_law.solves s.layers s.bottom sound.layers sound.bottom in
    let points = g.met.R.Reduction.points c.args.self.now.reduction t c.choice_count.ensures.lawful in
    let reduced = c.in_ok-reduce.ensures.came in
    let was = was_answer c.solve.result c.in_ok-answer.answer (sym c.raised.ensures ∙ c.in_ok-answer.was) in
    let long = ap (ltb (length b)) (sym c.choice_count.ensures.count) ∙ long_enough c.choice_count.result b c.in_ok-check_buffer.field-0 c.in_ok-check_buffer.ensures in
    let came = subst (λ r. Came (tab_of c.reduce.new.table) (answer_of s) b r c.solve.new.plan) (was ∙ ap Ok c.in-Plan.is) c.solve.ensures.came in
    let led = plan_led_back m (answer_of s) t b c.choice_count.ensures.lawful points right long (tab_of c.reduce.new.table) (g.R.Reduction.held c.reduce.new.self) c.solve.new.plan c.rebuild.new.plan c.in-Plan.field-0 reduced.0 reduced.1 came c.rebuild.ensures.buffer in
    subst (λ a. Came t (answer_of (over m s)) b (Ok a) c.rebuild.new.plan) (sym c.in-Plan.is) led
