-- One turn of a loop over the clauses that resolve.
use Rattle.std.proofs.Common.{◌≡◌, ℕ, ◌+◌, ◌<◌, Bool, cond, not, ◌&&◌, List, [], ◌∷◌, ◌++◌, map, length, get_or, take, sym, ap, ◌∙◌, arith}
use Rattle.std.proofs.lemmas.List.{append_assoc, append-nil, take_more}
use Rattle.std.proofs.lemmas.Bool.Decides.{nat_tests}
use Rattle.laws.specs.Lists.{has}
use Rattle.laws.specs.Literals.{taking, leaving}
use Rattle.laws.specs.Resolving.{clash, resolvent, resolvents_of, resolvents_all, holding}
use Rattle.table.specs.declared.clause.Clause.{Clause}
use Rattle.table.specs.Codes.{codes_of}

-- the resolvents of C with those of the clauses that leave out c
abbrev pub with_each : ℕ → List ℕ → List Clause → List (List ℕ)
with_each c C ds = resolvents_of c C (holding (leaving c) (map codes_of ds))

-- the resolvents of those of the clauses that take c, with each of Ds
abbrev pub of_each : ℕ → List (List ℕ) → List Clause → List (List ℕ)
of_each c Ds ds = resolvents_all c (holding (taking c) (map codes_of ds)) Ds

-- with one clause more
with_push : (c : ℕ) (C : List ℕ) (ds : List Clause) (D : Clause)
    → with_each c C (ds ++ D ∷ [])
    ≡ with_each c C ds ++ cond (has (leaving c) (codes_of D) && not (clash c C (codes_of D))) (resolvent c C (codes_of D) ∷ []) []
with_push c C [] D = grind (arith, nat_tests)
with_push c C (E ∷ ds) D = let ih = with_push c C ds D in grind (arith, nat_tests)

-- of one clause more
of_push : (c : ℕ) (Ds : List (List ℕ)) (ds : List Clause) (C : Clause)
    → of_each c Ds (ds ++ C ∷ []) ≡ of_each c Ds ds ++ cond (has (taking c) (codes_of C)) (resolvents_of c (codes_of C) Ds) []
of_push c Ds [] C = grind (arith, nat_tests, append-nil)
of_push c Ds (E ∷ ds) C = let ih = of_push c Ds ds C in grind (arith, nat_tests, append_assoc)

-- the clause read at i is D, and its codes are E
module _ (c : ℕ) (xs : List Clause) (i : ℕ) (D : Clause) (E : List ℕ) (b : Bool) (h : i < length xs) (at : D ≡ get_or xs i D)
    (codes : E ≡ codes_of D) where
  pub with_turn : (C : List ℕ) → b ≡ (has (leaving c) E && not (clash c C E))
      → with_each c C (take (i + 1) xs) ≡ with_each c C (take i xs) ++ cond b (resolvent c C E ∷ []) []
  with_turn C t =
      ap (with_each c C) (take_more xs i D h ∙ ap (λ F. take i xs ++ F ∷ []) (sym at)) ∙ with_push c C (take i xs) D
      ∙ ap (λ F. with_each c C (take i xs) ++ cond (has (leaving c) F && not (clash c C F)) (resolvent c C F ∷ []) []) (sym codes)
      ∙ ap (λ v. with_each c C (take i xs) ++ cond v (resolvent c C E ∷ []) []) (sym t)

  pub each_turn : (Ds : List (List ℕ)) → b ≡ has (taking c) E
      → of_each c Ds (take (i + 1) xs) ≡ of_each c Ds (take i xs) ++ cond b (resolvents_of c E Ds) []
  each_turn Ds t =
      ap (of_each c Ds) (take_more xs i D h ∙ ap (λ F. take i xs ++ F ∷ []) (sym at)) ∙ of_push c Ds (take i xs) D
      ∙ ap (λ F. of_each c Ds (take i xs) ++ cond (has (taking c) F) (resolvents_of c F Ds) []) (sym codes)
      ∙ ap (λ v. of_each c Ds (take i xs) ++ cond v (resolvents_of c E Ds) []) (sym t)
