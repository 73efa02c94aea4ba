-- Every clause is true exactly if the codes of each are.
use Rattle.std.proofs.Common.{map, Ok, ap, ◌∙◌, rules, tests}
use Rattle.std.proofs.lemmas.Iterator.{YieldsList-from_slice}
use Rattle.std.proofs.lemmas.Iterator.Search.{all_from_yields_List}
use Rattle.laws.specs.Clauses.{true_in}
use Rattle.laws.specs.Lists.{every}
use Rattle.laws.proofs.Lists.{every_map}
use Rattle.table.specs.Codes.{codes_of}
use Rattle.table.proofs.Positions.{judged_with}
use Rattle.table.proofs.table.Table.is_true.Goals as goal

pub returns : goal.returns
returns c =
    let Cs = c.args.self.now.clauses.items in
    let p = c.args.plan.now in
    ap Ok (all_from_yields_List (λ C. true_in p (codes_of C)) _ _ c.all.result c.all.ensures.ran
    (YieldsList-from_slice Cs cc) (λ x b q k. search (rules, tests))
    ∙ every_map (true_in p) codes_of Cs)
    ∙ judged_with (λ _. every (true_in p) (map codes_of Cs)) c.args.self.now.last p tt tt c.in_ok-check_plan.ensures
