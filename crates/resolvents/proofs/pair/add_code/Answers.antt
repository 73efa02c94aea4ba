-- A code that does not stand there goes in at its rank.
use Rattle.std.proofs.Common.{not, ltb, arith}
use Rattle.std.proofs.lemmas.Grind.{common_steps}
use Rattle.std.proofs.lemmas.List.Sums.{prefix_len-le-length}
use Rattle.table.proofs.Searches.{insert_rank}
use Rattle.resolvents.proofs.pair.add_code.Goals as goal

pub insert-requires : goal.insert-requires
insert-requires c = grind (arith, common_steps, prefix_len-le-length (λ x. not (ltb c.args.code x)))

pub returns : goal.returns
returns c = grind (arith, common_steps, insert_rank)
