-- What a push of a clause leaves, and that it is lawful either way.
use Rattle.std.proofs.Common.{◌≡◌, ℕ, ◌≤◌, Bool, true, false, cond, List, [], ◌∷◌, ◌++◌, map, length, Some, None, Ok, Option, sym, refl, ap, ◌∙◌, subst}
use Rattle.std.proofs.lemmas.List.{map_push}
use Rattle.std.proofs.lemmas.Bool.{cond_both}
use Rattle.laws.specs.declared.fault.Fault.{Fault}
use Rattle.laws.specs.Checks.{refusal, table_limits}
use Rattle.laws.specs.Clauses.{lawful, literals, sorted}
use Rattle.laws.specs.Faults.{passes}
use Rattle.laws.specs.Lists.{every}
use Rattle.laws.proofs.Tables.{each_taken, few_taken, small_taken}
use Rattle.table.specs.declared.clause.Clause.{Clause}
use Rattle.table.specs.Codes.{codes_of}

-- a check that passed refused nothing
none_from_passes : (o : Option Fault) → Ok tt ≡ passes o → o ≡ None
none_from_passes None h = refl
none_from_passes (Some f) h = cc

-- a check of these codes that passed, whose counts are the table's
pub nothing_refused : (n : ℕ) (Cs : List (List ℕ)) (codes : List ℕ) (k m : ℕ) → k ≡ length Cs → m ≡ literals Cs
    → Ok tt ≡ passes (refusal table_limits n k m codes) → refusal table_limits n (length Cs) (literals Cs) codes ≡ None
nothing_refused n Cs codes k m kl ml h =
    ap (λ i. refusal table_limits n i (literals Cs) codes) (sym kl)
    ∙ ap (λ i. refusal table_limits n k i codes) (sym ml)
    ∙ none_from_passes (refusal table_limits n k m codes) h

-- the clauses after a push, by their codes
pub codes_pushed : (b : Bool) (xs ys : List Clause) (D : Clause) (C : List ℕ)
    → codes_of D ≡ C → ys ≡ cond b (xs ++ D ∷ []) xs → map codes_of ys ≡ cond b (map codes_of xs ++ C ∷ []) (map codes_of xs)
codes_pushed b xs ys D C d e =
    ap (map codes_of) e
    ∙ elim b as (λ v. map codes_of (cond v (xs ++ D ∷ []) xs) ≡ cond v (map codes_of xs ++ C ∷ []) (map codes_of xs))
    [ true ↦ map_push codes_of xs D ∙ ap (λ A. map codes_of xs ++ A ∷ []) d | false ↦ refl ]

-- clauses to which one was pushed, or not, that is not refused
module _ (n : ℕ) (Cs Ds : List (List ℕ)) (codes : List ℕ) (b : Bool)
    (none : refusal table_limits n (length Cs) (literals Cs) codes ≡ None) (e : Ds ≡ cond b (Cs ++ sorted codes ∷ []) Cs) where
  pub few_after : length Cs ≤ 1024 → length Ds ≤ 1024
  few_after h = subst (λ As. length As ≤ 1024) (sym e)
      (cond_both b (Cs ++ sorted codes ∷ []) Cs (λ As. length As ≤ 1024) (λ _. few_taken n Cs codes none) (λ _. h))

  pub small_after : literals Cs ≤ 8192 → literals Ds ≤ 8192
  small_after h = subst (λ As. literals As ≤ 8192) (sym e)
      (cond_both b (Cs ++ sorted codes ∷ []) Cs (λ As. literals As ≤ 8192) (λ _. small_taken n Cs codes none) (λ _. h))

  pub each_after : every (lawful n) Cs ≡ true → every (lawful n) Ds ≡ true
  each_after h = subst (λ As. every (lawful n) As ≡ true) (sym e)
      (cond_both b (Cs ++ sorted codes ∷ []) Cs (λ As. every (lawful n) As ≡ true) (λ _. each_taken n Cs codes none h) (λ _. h))
