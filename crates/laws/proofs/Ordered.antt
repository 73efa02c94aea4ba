-- The one list in order that has the literals of given codes is their sorted list.
use Rattle.std.proofs.Common.{◌≡◌, ℕ, suc, ◌+◌, ◌<◌, ◌≤◌, Bool, true, cond, ◌&&◌, eqb, leb, ltb, List, [], ◌∷◌, count_by, inl, inr, sym, refl, ap, ◌∙◌, arith}
use Rattle.std.specs.Ordering.{nat_cmp}
use Rattle.std.specs.List.Sorted.{IsNonDecreasing, IsPermutation, IsSorted}
use Rattle.std.proofs.lemmas.Bool.{leb-true, le-leb, ltb-true, ltb-false, and_parts, and_from, cases_Bool, cond_both}
use Rattle.std.proofs.lemmas.Bool.Decides.{nat_tests}
use Rattle.std.proofs.lemmas.List.Sorted.{IsNonDecreasingBy-drop, IsNonDecreasingBy-from_sort, sum_by-IsPermutation}
use Rattle.std.proofs.lemmas.List.Sums.{sum_by-cons}
use Rattle.laws.specs.Clauses.{insert, sorted}
use Rattle.laws.specs.Lists.{every}
use Rattle.laws.proofs.Lists.{decides_every, every_weaker}
use Rattle.laws.proofs.Sorted.{every_insert, into}

-- no number is below an earlier one
abbrev rising : List ℕ → Bool
rising [] = true
rising (x ∷ xs) = every (λ y. leb x y) xs && rising xs

-- how often a number stands in a list
abbrev times : ℕ → List ℕ → ℕ
times n xs = count_by (λ x. eqb x n) xs

rising_from : (xs : List ℕ) → IsNonDecreasing xs → rising xs ≡ true
rising_from [] up = refl
rising_from (x ∷ xs) up =
    and_from (every (λ y. leb x y) xs) (rising xs)
    ((decides_every (λ y. leb x y) xs).1 (λ k d lt. le-leb x _ (up 0 (suc k) d (omega arith) (omega arith))))
    (rising_from xs (IsNonDecreasingBy-drop (λ y. y) 1 (x ∷ xs) up))

rising_insert : (y : ℕ) (xs : List ℕ) → rising xs ≡ true → rising (insert y xs) ≡ true
rising_insert y [] up = refl
rising_insert y (x ∷ xs) up =
    let parts = and_parts (every (λ z. leb x z) xs) (rising xs) up in
    cond_both (ltb y x) (y ∷ x ∷ xs) (x ∷ insert y xs) (λ zs. rising zs ≡ true)
    (λ h. let low = ltb-true y x h in
    and_from (every (λ z. leb y z) (x ∷ xs)) (rising (x ∷ xs))
    (and_from (leb y x) (every (λ z. leb y z) xs) (le-leb y x (omega arith))
    (every_weaker (λ z. leb x z) (λ z. leb y z) (λ z k. le-leb y z (omega (arith, leb-true x z k))) xs parts.0))
    up)
    (λ h. let low = ltb-false y x h in
    and_from (every (λ z. leb x z) (insert y xs)) (rising (insert y xs))
    (every_insert (λ z. leb x z) y xs ∙ and_from (leb x y) (every (λ z. leb x z) xs) (le-leb x y (omega arith)) parts.0)
    (rising_insert y xs parts.1))

rising_into : (C codes : List ℕ) → rising C ≡ true → rising (into C codes) ≡ true
rising_into C [] up = up
rising_into C (x ∷ xs) up = rising_into (insert x C) xs (rising_insert x C up)

-- sorting keeps how often each number stands
times_insert : (n y : ℕ) (xs : List ℕ) → times n (insert y xs) ≡ times n (y ∷ xs)
times_insert n y [] = refl
times_insert n y (x ∷ xs) =
    let one : ℕ → ℕ = λ z. cond (eqb z n) 1 0 in
    cond_both (ltb y x) (y ∷ x ∷ xs) (x ∷ insert y xs) (λ zs. times n zs ≡ times n (y ∷ x ∷ xs))
    (λ _. refl)
    (λ _. omega (arith, times_insert n y xs, sum_by-cons one x (insert y xs), sum_by-cons one y xs, sum_by-cons one y (x ∷ xs), sum_by-cons one x xs))

times_into : (n : ℕ) (C codes : List ℕ) → times n (into C codes) ≡ times n C + times n codes
times_into n C [] = omega arith
times_into n C (x ∷ xs) =
    let one : ℕ → ℕ = λ z. cond (eqb z n) 1 0 in
    omega (arith, times_into n (insert x C) xs, times_insert n x C, sum_by-cons one x C, sum_by-cons one x xs)

-- a number below all does not stand in the list
times_below : (n x : ℕ) (xs : List ℕ) → n < x → every (λ y. leb x y) xs ≡ true → times n xs ≡ 0
times_below n x [] lt all = refl
times_below n x (y ∷ ys) lt all =
    let parts = and_parts (leb x y) (every (λ z. leb x z) ys) all in
    let above = leb-true x y parts.0 in
    let more = sum_by-cons (λ z. cond {A = ℕ} (eqb z n) 1 0) y ys in
    let here : cond {A = ℕ} (eqb y n) 1 0 ≡ 0 = grind (arith, nat_tests) in
    omega (arith, times_below n x ys lt parts.1)

times_head : (n : ℕ) (xs : List ℕ) → times n (n ∷ xs) ≡ 1 + times n xs
times_head n xs =
    let here : cond {A = ℕ} (eqb n n) 1 0 ≡ 1 = grind (arith, nat_tests) in
    sum_by-cons (λ z. cond {A = ℕ} (eqb z n) 1 0) n xs ∙ ap (λ k. k + times n xs) here

-- of two lists in order with the same numbers, the first numbers are the same
same_head : (x y : ℕ) (xs ys : List ℕ) → rising (x ∷ xs) ≡ true → rising (y ∷ ys) ≡ true
    → ((n : ℕ) → times n (x ∷ xs) ≡ times n (y ∷ ys)) → y ≤ x
same_head x y xs ys up up' same =
    elim (cases_Bool (ltb x y)) [
      | inl t ↦
          let lt = ltb-true x y t in
          let low = times_below x y ys lt (and_parts (every (λ z. leb y z) ys) (rising ys) up').0 in
          let here : cond {A = ℕ} (eqb y x) 1 0 ≡ 0 = grind (arith, nat_tests) in
          absurd (omega (arith, same x, times_head x xs, sum_by-cons (λ z. cond {A = ℕ} (eqb z x) 1 0) y ys))
      | inr u ↦ omega (arith, ltb-false x y u)
    ]

-- and so are the lists
same_lists : (xs ys : List ℕ) → rising xs ≡ true → rising ys ≡ true → ((n : ℕ) → times n xs ≡ times n ys) → xs ≡ ys
same_lists [] [] up up' same = refl
same_lists [] (y ∷ ys) up up' same = absurd (omega (arith, same y, times_head y ys))
same_lists (x ∷ xs) [] up up' same = absurd (omega (arith, same x, times_head x xs))
same_lists (x ∷ xs) (y ∷ ys) up up' same =
    let one = same_head x y xs ys up up' same in
    let two = same_head y x ys xs up' up (λ n. sym (same n)) in
    let head : x ≡ y = omega arith in
    let tails : (n : ℕ) → times n xs ≡ times n ys =
    λ n. let a = sum_by-cons (λ z. cond {A = ℕ} (eqb z n) 1 0) x xs in
    let b = sum_by-cons (λ z. cond {A = ℕ} (eqb z n) 1 0) y ys in
    let c = ap (λ w. cond {A = ℕ} (eqb w n) 1 0) head in
    omega (arith, same n) in
    let tail = same_lists xs ys (and_parts (every (λ z. leb x z) xs) (rising xs) up).1 (and_parts (every (λ z. leb y z) ys) (rising ys) up').1 tails in
    cc

pub sorted_by_order : (codes ys : List ℕ) → IsPermutation codes ys → IsSorted nat_cmp ys → ys ≡ sorted codes
sorted_by_order codes ys perm up =
    same_lists ys (sorted codes) (rising_from ys (IsNonDecreasingBy-from_sort (λ x. x) ys up)) (rising_into [] codes refl)
    (λ n. omega (arith, sum_by-IsPermutation (λ z. cond {A = ℕ} (eqb z n) 1 0) codes ys perm, times_into n [] codes))
