-- Lawful clauses in the subject's words.
use Rattle.std.proofs.Common.{◌≡◌, ℕ, zero, suc, ◌<◌, ◌≤◌, true, ltb, leb, List, [], ◌∷◌, length, get_or, Decides, All, Contains, sym, refl, ap, ◌∙◌, inl, inr, arith}
use Rattle.std.proofs.lemmas.List.Elements.{All-from_get_or, at_from_Contains}
use Rattle.std.proofs.lemmas.Bool.{leb-true, le-leb, ltb-true, lt-ltb, and_parts, and_from, cases_order}
use Rattle.std.proofs.lemmas.Bool.Decides.{Decides-by_and, Decides-and, Decides-like}
use Rattle.laws.specs.Lists.{every}
use Rattle.laws.specs.Literals.{choice, top}
use Rattle.laws.specs.Clauses.{within, ascends, lawful, WellFormed, Lawfulness}
use Rattle.laws.proofs.Lists.{decides_every, every_get_d}

-- at positions i < j a lower choice stands before a higher one
abbrev Rises : List ℕ → Type 0
Rises C = (i j : ℕ) → i < j → j < length C → choice (get_or C i 0) < choice (get_or C j 0)

rises_from_ascends : (C : List ℕ) → ascends C ≡ true → Rises C
rises_from_ascends [] h i j lt in' = absurd (omega arith)
rises_from_ascends (x ∷ xs) h zero zero lt in' = absurd (omega arith)
rises_from_ascends (x ∷ xs) h zero (suc j) lt in' =
    ltb-true (choice x) (choice (get_or xs j 0)) (every_get_d (λ y. ltb (choice x) (choice y)) xs j 0 (and_parts (every (λ y. ltb (choice x) (choice y)) xs) (ascends xs) h).0 (omega arith))
rises_from_ascends (x ∷ xs) h (suc i) zero lt in' = absurd (omega arith)
rises_from_ascends (x ∷ xs) h (suc i) (suc j) lt in' =
    rises_from_ascends xs (and_parts (every (λ y. ltb (choice x) (choice y)) xs) (ascends xs) h).1 i j (omega arith) (omega arith)

ascends_from_rises : (C : List ℕ) → Rises C → ascends C ≡ true
ascends_from_rises [] h = refl
ascends_from_rises (x ∷ xs) h =
    and_from (every (λ y. ltb (choice x) (choice y)) xs) (ascends xs)
    ((decides_every (λ y. ltb (choice x) (choice y)) xs).1 (All-from_get_or (λ y. ltb (choice x) (choice y) ≡ true) xs 0 (λ j lt. lt-ltb (choice x) (choice (get_or xs j 0)) (h 0 (suc j) (omega arith) (omega arith)))))
    (ascends_from_rises xs (λ i j lt in'. h (suc i) (suc j) (omega arith) (omega arith)))

-- no code is above the largest one, by computing and in words
pub decides_within : (n : ℕ) (C : List ℕ) → Decides (within n C) (All (λ l. l ≤ top n) C)
decides_within n C = Decides-by_and (λ l. leb l (top n)) (λ l. l ≤ top n) (within n) (λ l. (leb-true l (top n), le-leb l (top n))) refl (λ _ _. refl) C

-- one clause is lawful exactly if it is well formed
pub decides_lawful : (n : ℕ) (C : List ℕ) → Decides (lawful n C) (WellFormed n C)
decides_lawful n C =
    Decides-like (lawful n C) (λ h. record { low = h.0; order = h.1 }) (λ w. (w.low, w.order))
    (Decides-and (within n C) (ascends C) (decides_within n C) (rises_from_ascends C, ascends_from_rises C))

pub lawfulness : Lawfulness
lawfulness n Cs = Decides-by_and (lawful n) (WellFormed n) (every (lawful n)) (decides_lawful n) refl (λ _ _. refl) Cs

-- a lawful clause has at most one literal of a choice
pub one_of_choice :
    (n : ℕ) (C : List ℕ) → lawful n C ≡ true → (l m : ℕ) → Contains C l → Contains C m → choice l ≡ choice m → l ≡ m
one_of_choice n C h l m in_l in_m same =
    let order = ((decides_lawful n C).0 h).order in
    let (i, in_i, at_i) = at_from_Contains C l in_l in
    let (j, in_j, at_j) = at_from_Contains C m in_m in
    let is_l : get_or C i 0 ≡ l = at_i 0 in
    let is_m : get_or C j 0 ≡ m = at_j 0 in
    elim (cases_order i j) [
      | inl e ↦ sym is_l ∙ ap (λ k. get_or C k 0) e ∙ is_m
      | inr (inl less) ↦ absurd (omega (arith, order i j less in_j, ap choice is_l, ap choice is_m))
      | inr (inr more) ↦ absurd (omega (arith, order j i more in_i, ap choice is_l, ap choice is_m))
    ]
