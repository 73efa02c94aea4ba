-- What a clause holds.
use Rattle.std.specs.Prelude.{ℕ, not, List, vec_items, nat_lt}
use Rattle.std.specs.List.{prefix_len}
use Rattle.table.specs.declared.clause.Clause.{Clause}

-- its codes, in ascending order
abbrev pub codes_of : Clause → List ℕ
codes_of C = vec_items C.codes

-- where a code goes in ascending order: behind those at the front that are not above it
abbrev pub rank_of : ℕ → List ℕ → ℕ
rank_of l C = prefix_len (λ x. not (nat_lt l x)) C
