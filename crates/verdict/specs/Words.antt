-- Literals, clauses and plans in plain words, as bytes of text.
use Rattle.std.specs.Prelude.{ℕ, ◌+◌, ◌%◌, cond, List, [], ◌∷◌, ◌++◌, Some, None, codes, decimal, Option, ◌==◌, nat_eq}
use Rattle.laws.specs.Lists.{every}
use Rattle.laws.specs.Literals.{choice}

-- what f says of each element and its position, one behind the other; positions are counted from i
abbrev pub listed : {X : Type 0} → (ℕ → X → List ℕ) → ℕ → List X → List ℕ
listed f i [] = []
listed f i (x ∷ xs) = f i x ++ listed f (i + 1) xs

-- `take 3` or `leave 3`
abbrev pub literal_words : ℕ → List ℕ
literal_words l = cond (l % 2 == 0) (codes "take " ++ decimal (choice l)) (codes "leave " ++ decimal (choice l))

-- the literal at position i of a clause: ` or ` stands before each but the first
abbrev pub literal_at : ℕ → ℕ → List ℕ
literal_at i l = cond (i == 0) (literal_words l) (codes " or " ++ literal_words l)

-- `take 3 or leave 7`
abbrev pub clause_words : List ℕ → List ℕ
clause_words ls = listed literal_at 0 ls

-- `true by take 3`, or `FALSE`
abbrev pub truth_words : Option ℕ → List ℕ
truth_words None = codes "FALSE"
truth_words (Some l) = codes "true by " ++ literal_words l

-- choice c behind a space if its byte of the plan says that it is taken, and else nothing
abbrev pub choice_at : ℕ → ℕ → List ℕ
choice_at c b = cond (b == 0) [] (codes " " ++ decimal c)

-- ` 0 3`, or ` nothing`
abbrev pub plan_words : List ℕ → List ℕ
plan_words p = cond (every (λ b. nat_eq b 0) p) (codes " nothing") (listed choice_at 0 p)
