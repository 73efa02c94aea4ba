-- One turn counts one resolvent and its literals, if the literal stands in the clause and the pair does not clash.
use Rattle.std.proofs.Common.{◌≡◌, Bool, true, false, [], ◌∷◌, map, length, take, sym, ap, ◌∙◌, arith}
use Rattle.std.proofs.lemmas.List.{length-append}
use Rattle.std.proofs.lemmas.Grind.{common_steps}
use Rattle.laws.specs.Clauses.{ascends, lawful, literals}
use Rattle.laws.specs.Lists.{every}
use Rattle.laws.specs.Resolving.{resolvent}
use Rattle.table.specs.Codes.{codes_of}
use Rattle.queries.proofs.Picked.{read_small, read_ascends}
use Rattle.laws.proofs.Tables.{literals_append}
use Rattle.resolvents.proofs.Pairs.{with_each, with_turn}
use Rattle.resolvents.proofs.sizes.sizes_with.Goals as goal
use Rattle.resolvents.proofs.sizes.sizes_with.Goals.{then-have_resolvent, else-have_resolvent}

pub resolvent_len-m-requires : goal.resolvent_len-m-requires
resolvent_len-m-requires c =
    let t = c.args.table.now in
    let xs = c.deref-second-items.result.now in
    let D = c.second-item.result in
    let small = read_small xs c.loop-second.second-index D c.loop-second-test.true c.second-item.is in
    let all = ap (λ ds. literals (map codes_of ds)) c.deref-second-items.ensures.value in
    let each : every (lawful t.last) (map codes_of xs) ≡ true = ap (λ ds. every (lawful t.last) (map codes_of ds)) c.deref-second-items.ensures.value ∙ t.each in
    record {
      few_first = c.requires;
      few_second = omega (arith, small, all, t.small, ap length c.codes-codes.ensures);
      order = ap ascends c.codes-codes.ensures ∙ read_ascends xs c.loop-second.second-index D c.loop-second-test.true c.second-item.is t.last each;
    }

pub loop-second-preserved : goal.loop-second-preserved
loop-second-preserved c =
    let inv = c.loop-second.invariant in
    let xs = c.deref-second-items.result.now in
    let i = c.loop-second.second-index in
    let C = c.args.first.now in
    let E = c.codes-codes.result.now in
    let turn = λ (b : Bool) (t : b ≡ c.have_resolvent.result).
    with_turn c.args.c xs i c.second-item.result E b c.loop-second-test.true c.second-item.is c.codes-codes.ensures C (t ∙ c.have_resolvent.ensures) in
    elim c.if-have_resolvent.branch [
      | then-have_resolvent w ↦
          let before = with_each c.args.c C (take i xs) in
          let one = resolvent c.args.c C E ∷ [] in
          let grown = turn true (sym w.if-have_resolvent.true) in
          let sized = w.resolvent_len-m.ensures in
          record {
            few = omega (arith, inv.few, w.n-is);
            small = omega (arith, inv.small, w.m-is, sized.bound);
            number = omega (arith, inv.number, w.n-is, ap length grown, length-append before one);
            total = omega (arith, inv.total, w.m-is, ap literals grown, literals_append before one, sized.value);
          }
      | else-have_resolvent w ↦ let same = turn false (sym w.if-have_resolvent.false) in grind (arith, common_steps, same)
    ]
