-- The literals of clauses, as a sum over the clauses.
use Rattle.std.proofs.Common.{◌≡◌, List, [], ◌∷◌, map, length, refl, sum_by, arith}
use Rattle.std.proofs.lemmas.List.Sums.{sum_by-cons}
use Rattle.laws.specs.Clauses.{literals}
use Rattle.table.specs.declared.clause.Clause.{Clause}
use Rattle.table.specs.Codes.{codes_of}

pub literals_sum : (Cs : List Clause) → literals (map codes_of Cs) ≡ sum_by (λ C. length (codes_of C)) Cs
literals_sum [] = refl
literals_sum (C ∷ Cs) = omega (arith, literals_sum Cs, sum_by-cons (λ D. length (codes_of D)) C Cs)
