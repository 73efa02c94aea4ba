-- A clause lets the codes be blocked exactly if its codes do.
use Rattle.std.proofs.Common.{ℕ, Bool, not, ◌||◌, List, ◌∙◌, rules, tests}
use Rattle.std.proofs.lemmas.Iterator.{YieldsList-from_slice}
use Rattle.std.proofs.lemmas.Iterator.Search.{all_from_yields_List}
use Rattle.laws.specs.Blocked.{hinders}
use Rattle.laws.specs.Lists.{has}
use Rattle.laws.specs.Literals.{neg}
use Rattle.laws.proofs.Lists.{every_map}
use Rattle.table.specs.Codes.{codes_of}
use Rattle.queries.proofs.blocked.is_blocked.Goals as goal

pub returns : goal.returns
returns c =
    let Cs = c.args.table.now.clauses.items in
    let lets : List ℕ → Bool = λ D. not (has (neg c.args.code) D) || hinders c.args.codes.now c.args.code D in
    all_from_yields_List (λ C. lets (codes_of C)) _ _ c.all.result c.all.ensures.ran
    (YieldsList-from_slice Cs cc) (λ x b q k. search (rules, tests))
    ∙ every_map lets codes_of Cs
