-- The first clause that is false is the first whose codes are.
use Rattle.std.proofs.Common.{◌≡◌, not, map, ◌∙◌, rules, tests}
use Rattle.std.proofs.lemmas.Iterator.{YieldsList-from_slice}
use Rattle.std.proofs.lemmas.Iterator.Adapters.{position_from-zero}
use Rattle.std.proofs.lemmas.Iterator.Search.{position_from_yields_List}
use Rattle.laws.specs.Clauses.{true_in}
use Rattle.laws.specs.Lists.{place}
use Rattle.laws.proofs.Lists.{place_map}
use Rattle.table.specs.Codes.{codes_of}
use Rattle.table.proofs.Positions.{judged_with}
use Rattle.table.proofs.table.Table.first_false.Goals as goal

pub returns : goal.returns
returns c =
    let Cs = c.args.self.now.clauses.items in
    let p = c.args.plan.now in
    let is_false = λ (C : _). not (true_in p (codes_of C)) in
    let there = place (λ C. not (true_in p C)) (map codes_of Cs) in
    let found : c.position.result ≡ there =
    position_from_yields_List is_false _ _ c.position.result c.position.ensures.ran
    (YieldsList-from_slice Cs cc) (λ x b q k. search (rules, tests))
    ∙ position_from-zero is_false Cs ∙ place_map (λ C. not (true_in p C)) codes_of 0 Cs in
    let wanted = judged_with (λ _. there) c.args.self.now.last p tt tt c.in_ok-check_plan.ensures in
    search rules
