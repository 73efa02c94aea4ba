-- Resolvents: what two clauses that disagree on a choice say together without it.
use Rattle.std.specs.Prelude.{ℕ, Bool, cond, not, ◌&&◌, List, [], ◌∷◌, ◌++◌, filter, ◌==◌, nat_eq}
use Rattle.laws.specs.Clauses.{insert}
use Rattle.laws.specs.Lists.{any, has}
use Rattle.laws.specs.Literals.{choice, neg, taking, leaving}

-- a clause without the literals of choice c
abbrev pub apart : ℕ → List ℕ → List ℕ
apart c C = filter (λ l. not (choice l == c)) C

-- one literal more, at its place in ascending order, unless it stands there already
abbrev pub join : ℕ → List ℕ → List ℕ
join y C = cond (has y C) C (insert y C)

-- the literals of both clauses
abbrev pub union : List ℕ → List ℕ → List ℕ
union C [] = C
union C (y ∷ ys) = join y (union C ys)

-- the clauses disagree on a choice other than c
abbrev pub clash : ℕ → List ℕ → List ℕ → Bool
clash c C D = any (λ l. not (choice l == c) && has (neg l) C) D

-- the union without c
abbrev pub resolvent : ℕ → List ℕ → List ℕ → List ℕ
resolvent c C D = union (apart c C) (apart c D)

-- the resolvents of one clause with each of some; a pair that also clashes has none
abbrev pub resolvents_of : ℕ → List ℕ → List (List ℕ) → List (List ℕ)
resolvents_of c C [] = []
resolvents_of c C (D ∷ Ds) = cond (clash c C D) (resolvents_of c C Ds) (resolvent c C D ∷ resolvents_of c C Ds)

-- the resolvents of each pair, by position of the first, then of the second
abbrev pub resolvents_all : ℕ → List (List ℕ) → List (List ℕ) → List (List ℕ)
resolvents_all c [] Ds = []
resolvents_all c (C ∷ Cs) Ds = resolvents_of c C Ds ++ resolvents_all c Cs Ds

-- the clauses in which a literal stands
abbrev pub holding : ℕ → List (List ℕ) → List (List ℕ)
holding l Cs = filter (has l) Cs

-- the clauses that do not speak of choice c
abbrev pub others : ℕ → List (List ℕ) → List (List ℕ)
others c Cs = filter (λ C. not (any (λ l. nat_eq (choice l) c) C)) Cs

-- the resolvents of choice c: of each clause that takes it with each that leaves it out
abbrev pub resolvents : ℕ → List (List ℕ) → List (List ℕ)
resolvents c Cs = resolvents_all c (holding (taking c) Cs) (holding (leaving c) Cs)

-- the clauses of c are replaced by their resolvents
abbrev pub resolved : ℕ → List (List ℕ) → List (List ℕ)
resolved c Cs = others c Cs ++ resolvents c Cs
