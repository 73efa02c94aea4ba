-- The place found is that of the first code whose choice stands before it.
use Rattle.std.proofs.Common.{[], refl, ◌∙◌, rules, tests}
use Rattle.std.specs.List.{enumerate_from}
use Rattle.std.proofs.lemmas.Iterator.{YieldsList-from_slice}
use Rattle.std.proofs.lemmas.Iterator.Adapters.{position_from-zero}
use Rattle.std.proofs.lemmas.Iterator.Consumers.{YieldsList-from_enumerate}
use Rattle.std.proofs.lemmas.Iterator.Search.{position_from_yields_List}
use Rattle.table.proofs.Searches.{repeated_at, repeat_place}
use Rattle.table.proofs.checks.first_repeated.Goals as goal

pub returns : goal.returns
returns c =
    let codes = c.args.codes.now in
    position_from_yields_List (repeated_at codes) _ _ c.position.result c.position.ensures.ran
    (YieldsList-from_enumerate (YieldsList-from_slice codes cc) cc) (λ x b q k. search (rules, tests))
    ∙ position_from-zero (repeated_at codes) (enumerate_from 0 codes) ∙ repeat_place [] 0 codes refl
