use Rattle.std.proofs.Common.{rules, ◌<◌, ◌^◌, length, sum_by, arith}
use Rattle.std.proofs.iter.runs.Made.{chains}
use Rattle.table.specs.Codes.{codes_of}
use Rattle.table.proofs.Lengths.{literals_sum}
use Rattle.table.proofs.table.Table.literal_count.Goals as goal

pub sum-requires-clause-fits : goal.sum-requires-clause-fits
sum-requires-clause-fits c =
    let t = c.args.self.now in
    let fits : sum_by (λ C. length (codes_of C)) t.clauses.items < 2 ^ 64 = omega (arith, literals_sum t.clauses.items, t.small) in
    search (rules, chains, fits)

pub returns : goal.returns
returns c = search (rules, chains, literals_sum)
