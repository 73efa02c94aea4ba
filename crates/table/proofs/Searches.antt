-- What the searches of a list have to do with each other, and where they find.
use Rattle.std.proofs.Common.{◌≡◌, ℕ, ◌+◌, ◌<◌, Bool, true, false, cond, not, eqb, ltb, List, [], ◌∷◌, ◌++◌, length, take, Some, sym, refl, ap, ◌∙◌, one-add, arith, length-append}
use Rattle.std.specs.List.{insert as inserted, enumerate_from}
use Rattle.std.proofs.Math.Seq.{take-append_seam}
use Rattle.std.proofs.lemmas.List.{append_assoc}
use Rattle.laws.specs.Checks.{repeat_from}
use Rattle.laws.specs.Clauses.{insert}
use Rattle.laws.specs.Lists.{any, place_from}
use Rattle.laws.specs.Literals.{choice}
use Rattle.table.specs.Codes.{rank_of}

-- the place of a repeated choice is below the end
pub repeat_below : (seen : List ℕ) (i k : ℕ) (xs : List ℕ) → repeat_from seen i xs ≡ Some k → k < i + length xs
repeat_below seen i k [] e = let z : ◌≡◌ {A = ℕ} 0 1 = cc in absurd (omega arith)
repeat_below seen i k (x ∷ xs) h =
    elim (any (λ y. eqb (choice y) (choice x)) seen) as
    (λ b. cond b (Some i) (repeat_from (seen ++ x ∷ []) (i + 1) xs) ≡ Some k → k < i + length (x ∷ xs)) [
      | true ↦ λ e. let s : i ≡ k = cc in omega arith
      | false ↦ λ e. omega (arith, repeat_below (seen ++ x ∷ []) (i + 1) k xs e)
    ] h

-- the choice of a code at its place stands among those before it
abbrev pub repeated_at : List ℕ → ℕ × ℕ → Bool
repeated_at codes p = any (λ y. eqb (choice y) (choice p.1)) (take p.0 codes)

-- the first place of such a code is that of the first repeated choice
pub repeat_place : (seen : List ℕ) (i : ℕ) (xs : List ℕ) → length seen ≡ i
    → place_from (repeated_at (seen ++ xs)) i (enumerate_from i xs) ≡ repeat_from seen i xs
repeat_place seen i [] e = refl
repeat_place seen i (x ∷ xs) e =
    let front : take i (seen ++ x ∷ xs) ≡ seen = ap (λ n. take n (seen ++ x ∷ xs)) (sym e) ∙ take-append_seam seen (x ∷ xs) in
    let later = λ (l : List ℕ). place_from (repeated_at l) (i + 1) (enumerate_from (i + 1) xs) in
    let rest : later (seen ++ x ∷ xs) ≡ repeat_from (seen ++ x ∷ []) (i + 1) xs =
    ap later (sym (append_assoc seen (x ∷ []) xs)) ∙ repeat_place (seen ++ x ∷ []) (i + 1) xs (omega (arith, length-append seen (x ∷ []), e)) in
    ap (λ s. cond (any (λ y. eqb (choice y) (choice x)) s) (Some i) (later (seen ++ x ∷ xs))) front
    ∙ ap (λ r. cond (any (λ y. eqb (choice y) (choice x)) seen) (Some i) r) rest

-- a code goes in at its rank
pub insert_rank : (y : ℕ) (xs : List ℕ) → insert y xs ≡ inserted xs (rank_of y xs) y
insert_rank y [] = refl
insert_rank y (x ∷ xs) =
    elim (ltb y x) as
    (λ b. cond b (y ∷ x ∷ xs) (x ∷ insert y xs) ≡ inserted (x ∷ xs) (cond (not b) (1 + rank_of y xs) 0) y)
    [ true ↦ refl | false ↦ rw one-add (ap (λ zs. x ∷ zs) (insert_rank y xs)) ]
