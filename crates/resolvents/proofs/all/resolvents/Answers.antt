-- One turn pushes the resolvents of one clause, if it takes the choice.
use Rattle.std.proofs.Common.{◌≡◌, ◌++◌, map, vec_items, ap, ◌∙◌, arith}
use Rattle.std.proofs.lemmas.Grind.{common_steps}
use Rattle.laws.specs.Lists.{has}
use Rattle.laws.specs.Literals.{leaving}
use Rattle.laws.specs.Resolving.{holding, resolvents_of}
use Rattle.table.specs.Codes.{codes_of}
use Rattle.table.specs.Held.{clauses_of}
use Rattle.resolvents.proofs.Pairs.{each_turn}
use Rattle.resolvents.proofs.all.resolvents.Goals as goal
use Rattle.resolvents.proofs.all.resolvents.Goals.{then-stands_in+in_ok-push_each, else-stands_in}

pub loop-first-preserved : goal.loop-first-preserved
loop-first-preserved c =
    let Ds = holding (leaving c.args.c) (clauses_of c.args.table.now) in
    let turn = each_turn c.args.c c.deref-first-items.result.now c.loop-first.first-index c.first-item.result c.codes-codes.result.now c.stands_in.result
    c.loop-first-test.true c.first-item.is c.codes-codes.ensures Ds (c.stands_in.ensures ∙ ap (λ l. has l c.codes-codes.result.now) c.taking.ensures) in
    elim c.if-stands_in.branch [
      | then-stands_in+in_ok-push_each w ↦
          let after : map codes_of (vec_items w.push_each.new.out) ≡ map codes_of (vec_items c.loop-first.out) ++ resolvents_of c.args.c c.codes-codes.result.now Ds = w.in_ok-push_each.ensures in
          grind (arith, common_steps, turn, after)
      | else-stands_in w ↦ grind (arith, common_steps, turn)
    ]
