-- The choices given are those of 0 to the last that occur.
use Rattle.std.proofs.Common.{◌≡◌, IfOk, rules, tests}
use Rattle.std.proofs.lemmas.Iterator.{items_from_collect}
use Rattle.std.proofs.lemmas.Iterator.Consumers.{YieldsList-at, YieldsList-from_filter}
use Rattle.laws.specs.Occurring.{occurring}
use Rattle.laws.specs.Tables.{occurs_in}
use Rattle.table.specs.Held.{clauses_of}
use Rattle.queries.proofs.Ranges.{YieldsList-from_zero}
use Rattle.queries.proofs.occurring.occurring_choices.Goals as goal

pub returns : goal.returns
returns c =
    let t = c.args.table.now in
    let collected : IfOk c.collect.result (λ v. v.items ≡ occurring t.last (clauses_of t)) =
    items_from_collect c.collect.result c.collect.ensures.ran
    (YieldsList-from_filter _ (λ x. occurs_in x (clauses_of t))
    (YieldsList-at c.filter.ensures.source (YieldsList-from_zero t.last (search rules) (search rules) (search rules)))
    c.filter.ensures.closure (λ x b q k. search (rules, tests))) in
    search rules
