-- A place is below the number of codes, so that it fits 16 bits; each exit is the first check that fails.
use Rattle.std.proofs.Common.{[], sym, ◌∙◌, arith}
use Rattle.laws.proofs.Lists.{place_some}
use Rattle.table.proofs.Searches.{repeat_below}
use Rattle.table.proofs.checks.check_codes.Goals as goal

pub overflow_cast-result : goal.overflow_cast-result
overflow_cast-result c =
    let found = place_some _ 0 0 c.args.codes.now c.in-Some.at (sym c.first_above.ensures ∙ c.in-Some.is) in
    omega (arith, found.1, found.2.inside, c.if-codes-gt256.false)

pub overflow_cast-result-in-Some-first_repeated : goal.overflow_cast-result-in-Some-first_repeated
overflow_cast-result-in-Some-first_repeated c =
    omega (arith, repeat_below [] 0 c.in-Some-first_repeated.at c.args.codes.now (sym c.first_repeated.ensures ∙ c.in-Some-first_repeated.is), c.if-codes-gt256.false)
