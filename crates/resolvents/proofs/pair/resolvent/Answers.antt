-- A code of another choice is joined to what is made.
use Rattle.std.proofs.Common.{◌≡◌, vec_items, arith}
use Rattle.std.proofs.lemmas.Grind.{common_steps}
use Rattle.laws.specs.Resolving.{join}
use Rattle.resolvents.proofs.Unions.{union_push}
use Rattle.resolvents.proofs.pair.resolvent.Goals as goal

pub loop-code-preserved-in-Continue-branch-2 : goal.loop-code-preserved-in-Continue-branch-2
loop-code-preserved-in-Continue-branch-2 c =
    let added : vec_items c.add_code.new.out ≡ join c.in-Some.code.now (vec_items c.loop-code.out) = c.in_ok-add_code.ensures in
    grind (arith, common_steps, union_push, added, c.in-Some.ensures.steps, c.loop-code.invariant)
