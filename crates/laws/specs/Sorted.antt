-- What sorting a list of codes keeps and brings.
use Rattle.std.specs.Prelude.{◌≡◌, ℕ, true, ◌↔◌, List, [], length, None, Contains}
use Rattle.laws.specs.Clauses.{true_in, ascends, sorted}
use Rattle.laws.specs.Checks.{repeat_from}

-- the sorted codes are as many, they are the same literals, each plan makes them true or false as before, and they
-- ascend if no choice stood twice
pub record SortedOf (codes : List ℕ) : Type 0 where
  pub as_many : length (sorted codes) ≡ length codes
  pub same_literals : (l : ℕ) → Contains (sorted codes) l ↔ Contains codes l
  pub same_truth : (p : List ℕ) → true_in p (sorted codes) ≡ true_in p codes
  pub ascending : repeat_from [] 0 codes ≡ None → ascends (sorted codes) ≡ true

-- this holds of every list of codes
abbrev pub Sorting : Type 0
Sorting = (codes : List ℕ) → SortedOf codes
