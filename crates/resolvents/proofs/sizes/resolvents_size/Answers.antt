-- One turn counts the resolvents of one clause and their literals, if the literal stands in it.
use Rattle.std.proofs.Common.{◌≡◌, Bool, true, false, map, length, take, sym, ap, ◌∙◌, arith}
use Rattle.std.proofs.lemmas.List.{length-append}
use Rattle.std.proofs.lemmas.Grind.{common_steps}
use Rattle.laws.specs.Clauses.{literals}
use Rattle.laws.specs.Lists.{has}
use Rattle.laws.specs.Literals.{leaving}
use Rattle.laws.specs.Resolving.{holding, resolvents_of}
use Rattle.table.specs.Codes.{codes_of}
use Rattle.table.specs.Held.{clauses_of}
use Rattle.laws.proofs.Tables.{literals_append}
use Rattle.queries.proofs.Picked.{read_small}
use Rattle.resolvents.proofs.Pairs.{of_each, each_turn}
use Rattle.resolvents.proofs.sizes.resolvents_size.Goals as goal
use Rattle.resolvents.proofs.sizes.resolvents_size.Goals.{then-stands_in, else-stands_in}

pub sizes_with-sizes-requires : goal.sizes_with-sizes-requires
sizes_with-sizes-requires c =
    let small = read_small c.deref-first-items.result.now c.loop-first.first-index c.first-item.result c.loop-first-test.true c.first-item.is in
    let all = ap (λ ds. literals (map codes_of ds)) c.deref-first-items.ensures.value in
    omega (arith, small, all, c.args.table.now.small, ap length c.codes-codes.ensures)

pub loop-first-preserved : goal.loop-first-preserved
loop-first-preserved c =
    let inv = c.loop-first.invariant in
    let xs = c.deref-first-items.result.now in
    let i = c.loop-first.first-index in
    let E = c.codes-codes.result.now in
    let Ds = holding (leaving c.args.c) (clauses_of c.args.table.now) in
    let turn = λ (b : Bool) (t : b ≡ c.stands_in.result).
    each_turn c.args.c xs i c.first-item.result E b c.loop-first-test.true c.first-item.is c.codes-codes.ensures Ds (t ∙ c.stands_in.ensures ∙ ap (λ l. has l E) c.taking.ensures) in
    elim c.if-stands_in.branch [
      | then-stands_in w ↦
          let before = of_each c.args.c Ds (take i xs) in
          let one = resolvents_of c.args.c E Ds in
          let grown = turn true (sym w.if-stands_in.true) in
          let sizes = w.sizes_with-sizes.ensures in
          record {
            few = omega (arith, inv.few, w.n-is, sizes.few);
            small = omega (arith, inv.small, w.m-is, sizes.small);
            number = omega (arith, inv.number, w.n-is, ap length grown, length-append before one, sizes.number);
            total = omega (arith, inv.total, w.m-is, ap literals grown, literals_append before one, sizes.literals);
          }
      | else-stands_in w ↦ let same = turn false (sym w.if-stands_in.false) in grind (arith, common_steps, same)
    ]
