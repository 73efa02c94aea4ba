-- The choices counted are those of 0 to the last that occur.
use Rattle.std.proofs.Common.{◌≡◌, rules, tests, arith}
use Rattle.std.proofs.lemmas.Iterator.Consumers.{YieldsList-at, YieldsList-from_filter, count_from_yields_List}
use Rattle.laws.specs.Occurring.{occurring_count}
use Rattle.laws.specs.Tables.{occurs_in}
use Rattle.table.specs.Held.{tab_of, clauses_of}
use Rattle.queries.proofs.Ranges.{YieldsList-from_zero}
use Rattle.queries.proofs.occurring.occurring_count.Goals as goal

pub returns : goal.returns
returns c =
    let t = c.args.table.now in
    let counted : c.count.result ≡ occurring_count (tab_of t) =
    count_from_yields_List c.filter.result c.count.result c.count.ensures.ran
    (YieldsList-from_filter _ (λ x. occurs_in x (clauses_of t))
    (YieldsList-at c.filter.ensures.source (YieldsList-from_zero t.last (search rules) (search rules) (search rules)))
    c.filter.ensures.closure (λ x b q k. search (rules, tests))) in
    omega (arith, counted)
