-- After the push the table holds the clause more, or what it held; either way it is lawful, since nothing was refused.
use Rattle.std.proofs.Common.{true, map, is_ok, ap, arith}
use Rattle.std.proofs.lemmas.List.{length-map}
use Rattle.laws.specs.Clauses.{sorted}
use Rattle.table.specs.Codes.{codes_of}
use Rattle.table.proofs.Growth.{nothing_refused, codes_pushed, few_after, small_after, each_after}
use Rattle.table.proofs.table.Table.add.Goals as goal

pub invariant_of-self : goal.invariant_of-self
invariant_of-self c =
    let t = c.args.self.now in
    let codes = c.args.codes.now in
    let Cs = map codes_of t.clauses.items in
    let Ds = map codes_of c.push.new.self.items in
    let b = is_ok c.push.result in
    let none = nothing_refused t.last Cs codes c.clause_count.result c.literal_count.result c.clause_count.ensures c.literal_count.ensures c.in_ok-check_codes.ensures in
    let pushed = codes_pushed b t.clauses.items c.push.new.self.items c.in_ok-clause.clause (sorted codes) c.in_ok-clause.ensures c.push.ensures.items in
    let before = length-map t.clauses.items codes_of in
    let after = length-map c.push.new.self.items codes_of in
    let few = few_after t.last Cs Ds codes b none pushed (omega (arith, t.few, t.clauses.ok.0, before)) in
    record {
      few = omega (arith, few, c.push.new.self.ok.0, after);
      small = small_after t.last Cs Ds codes b none pushed t.small;
      each = each_after t.last Cs Ds codes b none pushed t.each;
    }

pub returns : goal.returns
returns c =
    let t = c.args.self.now in
    let codes = c.args.codes.now in
    let none = nothing_refused t.last (map codes_of t.clauses.items) codes c.clause_count.result c.literal_count.result c.clause_count.ensures c.literal_count.ensures c.in_ok-check_codes.ensures in
    let pushed = codes_pushed true t.clauses.items c.push.new.self.items c.in_ok-clause.clause (sorted codes) c.in_ok-clause.ensures c.in_ok-push.ensures.items in
    record { came = (none, ap (λ As. record { last = t.last; clauses = As }) pushed) }
