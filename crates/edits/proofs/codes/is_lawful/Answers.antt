-- One walk over the codes tells both: what goes on behind what is no larger than the largest.
use Rattle.std.proofs.Common.{◌≡◌, true, ◌&&◌, ltb, leb, get_or, rules, tests}
use Rattle.std.proofs.lemmas.Fn.{always_returns_same}
use Rattle.laws.specs.Literals.{choice, top}
use Rattle.edits.proofs.Tests.{lawful_from_adjacent}
use Rattle.edits.proofs.codes.is_lawful.Goals as goal

pub returns-then-first-most : goal.returns-then-first-most
returns-then-first-most c =
    let C = c.args.codes.now in
    let n = c.args.last in
    let first : leb (get_or C 0 0) (top n) ≡ true = search (rules, tests) in
    lawful_from_adjacent n C c.is_sorted_by.result first
    (c.is_sorted_by.ensures.cases (λ x y. ltb (choice x) (choice y) && leb y (top n)) (always_returns_same _ _ _ (λ a r f h. search (rules, tests))))
