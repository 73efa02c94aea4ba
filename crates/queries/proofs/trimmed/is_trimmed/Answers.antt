-- A clause shortens the codes exactly if its codes do.
use Rattle.std.proofs.Common.{◌∙◌, rules, tests}
use Rattle.std.proofs.lemmas.Iterator.{YieldsList-from_slice}
use Rattle.std.proofs.lemmas.Iterator.Search.{any_from_yields_List}
use Rattle.laws.specs.Trim.{shortens}
use Rattle.laws.proofs.Lists.{any_map}
use Rattle.table.specs.Codes.{codes_of}
use Rattle.queries.proofs.trimmed.is_trimmed.Goals as goal

pub returns : goal.returns
returns c =
    let Cs = c.args.table.now.clauses.items in
    any_from_yields_List (λ C. shortens c.args.codes.now c.args.code (codes_of C)) _ _ c.any.result c.any.ensures.ran
    (YieldsList-from_slice Cs cc) (λ x b q k. search (rules, tests))
    ∙ any_map (shortens c.args.codes.now c.args.code) codes_of Cs
