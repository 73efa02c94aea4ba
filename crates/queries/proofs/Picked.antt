-- What the laws of a table say of a clause that is read from it.
use Rattle.std.proofs.Common.{◌≡◌, ℕ, zero, suc, ◌<◌, ◌≤◌, true, List, [], ◌∷◌, map, length, get_or, sym, ap, ◌∙◌, arith}
use Rattle.std.proofs.lemmas.List.{get_or-map, length-map}
use Rattle.std.proofs.lemmas.Bool.{and_parts}
use Rattle.laws.specs.Clauses.{ascends, lawful, literals, within}
use Rattle.laws.specs.Lists.{every}
use Rattle.laws.proofs.Lists.{every_get_d}
use Rattle.table.specs.declared.clause.Clause.{Clause}
use Rattle.table.specs.Codes.{codes_of}

-- a clause has no more literals than all together
length_le_literals : (Cs : List (List ℕ)) (i : ℕ) → length (get_or Cs i []) ≤ literals Cs
length_le_literals [] i = omega arith
length_le_literals (C ∷ Cs) zero = omega arith
length_le_literals (C ∷ Cs) (suc i) = omega (arith, length_le_literals Cs i)

-- what holds of every clause of a table holds of one that is read
module _ (xs : List Clause) (i : ℕ) (D : Clause) (h : i < length xs) (e : D ≡ get_or xs i D) where
  pub read_small : length (codes_of D) ≤ literals (map codes_of xs)
  read_small =
      let here : get_or (map codes_of xs) i [] ≡ codes_of D = get_or-map codes_of xs i D [] h ∙ ap codes_of (sym e) in
      omega (arith, length_le_literals (map codes_of xs) i, ap length here)

  pub read_ascends : (n : ℕ) → every (lawful n) (map codes_of xs) ≡ true → ascends (codes_of D) ≡ true
  read_ascends n each =
      let here : get_or (map codes_of xs) i (codes_of D) ≡ codes_of D = get_or-map codes_of xs i D (codes_of D) h ∙ ap codes_of (sym e) in
      let long : i < length (map codes_of xs) = omega (arith, length-map xs codes_of) in
      (and_parts (within n (codes_of D)) (ascends (codes_of D)) (ap (lawful n) (sym here) ∙ every_get_d (lawful n) (map codes_of xs) i (codes_of D) each long)).1
