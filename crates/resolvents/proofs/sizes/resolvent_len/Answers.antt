-- The literals counted in both clauses are those of the resolvent.
use Rattle.std.proofs.Common.{◌≡◌, not, ◌&&◌, eqb, count_by, arith, rules}
use Rattle.std.proofs.iter.runs.Made.{chains}
use Rattle.std.proofs.lemmas.List.Sums.{length-filter}
use Rattle.laws.specs.Lists.{has}
use Rattle.laws.specs.Literals.{choice}
use Rattle.resolvents.proofs.Unions.{length_resolvent}
use Rattle.resolvents.proofs.sizes.resolvent_len.Goals as goal

pub returns-clause-value : goal.returns-clause-value
returns-clause-value c =
    let C = c.args.first.now in
    let D = c.args.second.now in
    let own : c.count-own.result ≡ count_by (λ l. not (eqb (choice l) c.args.c)) C = search (rules, chains) in
    let added : c.count-added.result ≡ count_by (λ l. not (eqb (choice l) c.args.c) && not (has l C)) D = search (rules, chains) in
    omega (arith, own, added, length_resolvent c.args.c C D c.requires.order, length-filter (λ l. not (eqb (choice l) c.args.c)) C)
