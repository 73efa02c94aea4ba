-- A clause speaks of the choice exactly if its codes do.
use Rattle.std.proofs.Common.{eqb, ◌∙◌, rules, tests}
use Rattle.std.proofs.lemmas.Iterator.{YieldsList-from_slice}
use Rattle.std.proofs.lemmas.Iterator.Search.{any_from_yields_List}
use Rattle.laws.specs.Lists.{any}
use Rattle.laws.specs.Literals.{choice}
use Rattle.laws.proofs.Lists.{any_map}
use Rattle.table.specs.Codes.{codes_of}
use Rattle.table.proofs.table.Table.occurs.Goals as goal

pub returns : goal.returns
returns c =
    any_from_yields_List (λ C. any (λ l. eqb (choice l) c.args.c) (codes_of C)) _ _ _ c.any.ensures.ran
    (YieldsList-from_slice c.args.self.now.clauses.items cc) (λ x b q k. search (rules, tests))
    ∙ any_map (any (λ l. eqb (choice l) c.args.c)) codes_of c.args.self.now.clauses.items
