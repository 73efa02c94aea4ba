-- One turn pushes the resolvent with one clause, if there is one.
use Rattle.std.proofs.Common.{◌≡◌, [], ◌∷◌, ◌++◌, vec_items, arith}
use Rattle.std.proofs.lemmas.Grind.{common_steps}
use Rattle.laws.specs.Resolving.{resolvent}
use Rattle.table.specs.Codes.{codes_of}
use Rattle.resolvents.proofs.Pairs.{with_turn}
use Rattle.resolvents.proofs.all.push_each.Goals as goal
use Rattle.resolvents.proofs.all.push_each.Goals.{then-have_resolvent+in_ok-clause+in_ok-push, else-have_resolvent}

pub loop-second-preserved : goal.loop-second-preserved
loop-second-preserved c =
    let turn = with_turn c.args.c c.deref-second-items.result.now c.loop-second.second-index c.second-item.result c.codes-codes.result.now c.have_resolvent.result
    c.loop-second-test.true c.second-item.is c.codes-codes.ensures c.args.first.now c.have_resolvent.ensures in
    elim c.if-have_resolvent.branch [
      | then-have_resolvent+in_ok-clause+in_ok-push w ↦
          let made : codes_of w.in_ok-clause.clause ≡ resolvent c.args.c c.args.first.now c.codes-codes.result.now = w.in_ok-clause.ensures in
          let items : vec_items w.push.new.self ≡ vec_items c.loop-second.out ++ w.in_ok-clause.clause ∷ [] = w.in_ok-push.ensures.items in
          grind (arith, common_steps, turn, made, items)
      | else-have_resolvent w ↦ grind (arith, common_steps, turn)
    ]
