-- Clauses: sets of literals in which no choice stands twice, held in ascending order.
use Rattle.std.specs.Prelude.{ℕ, ◌+◌, ◌<◌, ◌≤◌, Bool, true, cond, ◌&&◌, ltb, List, [], ◌∷◌, length, Decides, fold, All, Contains, nat_le, nat_lt, slice_index}
use Rattle.laws.specs.Lists.{any, every}
use Rattle.laws.specs.Literals.{choice, top, holds, Agrees}

-- a plan makes a clause true if one of its literals agrees with it; the clause without literals is false
abbrev pub true_in : List ℕ → List ℕ → Bool
true_in p C = any (holds p) C

-- a plan makes clauses true if it makes every one true
abbrev pub all_true : List ℕ → List (List ℕ) → Bool
all_true p Cs = every (true_in p) Cs

-- the same in the subject's words: for every clause there is a literal that agrees with the plan
abbrev pub Keeps : List ℕ → List (List ℕ) → Type 0
Keeps p Cs = All (λ C. (l : ℕ) × Contains C l × Agrees p l) Cs

-- no code is above the largest one
abbrev pub within : ℕ → List ℕ → Bool
within n C = every (λ l. nat_le l (top n)) C

-- each literal's choice is lower than that of every later one: the codes ascend, and no choice stands twice
abbrev pub ascends : List ℕ → Bool
ascends [] = true
ascends (x ∷ xs) = every (λ y. ltb (choice x) (choice y)) xs && ascends xs

-- a clause as every clause of a table with last choice n is
abbrev pub lawful : ℕ → List ℕ → Bool
lawful n C = within n C && ascends C

-- one literal more, at its place in ascending order
abbrev pub insert : ℕ → List ℕ → List ℕ
insert y [] = y ∷ []
insert y (x ∷ xs) = cond (nat_lt y x) (y ∷ x ∷ xs) (x ∷ insert y xs)

-- the literals of a list in ascending order
abbrev pub sorted : List ℕ → List ℕ
sorted codes = fold (λ C l. insert l C) [] codes

-- how many literals stand in all clauses
abbrev pub literals : List (List ℕ) → ℕ
literals [] = 0
literals (C ∷ Cs) = length C + literals Cs

-- what a plan makes true by computing is what it makes true in the subject's words
abbrev pub Truth : Type 0
Truth = (p : List ℕ) (Cs : List (List ℕ)) → Decides (all_true p Cs) (Keeps p Cs)

-- a lawful clause in the subject's words: no literal above the largest, and at positions i < j a lower choice before a
-- higher one
pub record WellFormed (n : ℕ) (C : List ℕ) : Type 0 where
  pub low : All (λ l. l ≤ top n) C
  pub order : (i j : ℕ) → i < j → j < length C → choice (slice_index C i) < choice (slice_index C j)

-- clauses are lawful by computing exactly if each is in the subject's words
abbrev pub Lawfulness : Type 0
Lawfulness = (n : ℕ) (Cs : List (List ℕ)) → Decides (every (lawful n) Cs) (All (WellFormed n) Cs)
