-- A clause gives an answer exactly if its codes do.
use Rattle.std.proofs.Common.{◌≡◌, ap, ◌∙◌, rules}
use Rattle.std.specs.Slice.Iter.{iter_rest}
use Rattle.laws.specs.Lists.{first_some}
use Rattle.laws.specs.Lone.{single}
use Rattle.table.specs.Codes.{codes_of}
use Rattle.queries.proofs.Answered.{first_some_from_run, some_map}
use Rattle.queries.proofs.lone.first_lone.Goals as goal

pub returns : goal.returns
returns c =
    let Cs = c.args.table.now.clauses.items in
    let run = c.find_map.ensures.runs in
    let all : iter_rest run.0.from ≡ Cs = cc (ap iter_rest run.1) in
    first_some_from_run (λ C. single (codes_of C)) (λ x r q k. search rules) run.0 (iter_rest run.0.from)
    (c.iter.ensures.runs run.0 run.0.seen) c.find_map.result run.2
    ∙ ap (first_some (λ C. single (codes_of C))) all ∙ some_map single codes_of Cs
