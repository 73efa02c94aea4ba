-- Numbers counted from 0: which stand among them.
use Rattle.std.proofs.Common.{ℕ, ◌<◌, Contains, arith}
use Rattle.std.specs.List.{range_with_len}
use Rattle.std.proofs.lemmas.List.FromFn.{length-range_with_len, get_or-range_with_len}

-- among the first n numbers stand exactly those below n
pub has_counting : (n k : ℕ) → k < n → Contains (range_with_len 0 n) k
has_counting n k lt = (k, omega (arith, length-range_with_len 0 n), omega (arith, get_or-range_with_len 0 n k k lt))

pub counting_has : (n k : ℕ) → Contains (range_with_len 0 n) k → k < n
counting_has n k (i, lt, at) = omega (arith, length-range_with_len 0 n, at, get_or-range_with_len 0 n i k (omega (arith, length-range_with_len 0 n)))
