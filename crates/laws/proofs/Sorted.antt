-- Sorting by insertion.
use Rattle.std.proofs.Common.{◌≡◌, ℕ, ◌+◌, ◌<◌, Bool, true, false, ◌&&◌, ◌||◌, eqb, ltb, ◌↔◌, List, [], ◌∷◌, ◌++◌, length, None, fold, Contains, sym, refl, ◌∙◌, arith}
use Rattle.std.proofs.Math.Bool.{and-true, or-false}
use Rattle.std.proofs.lemmas.List.Folds.{list_any-append}
use Rattle.std.proofs.lemmas.Bool.{ltb-true, ltb-false, eqb-false, lt-ltb, and_parts, and_from, or_parts, cond_both}
use Rattle.std.proofs.lemmas.Bool.Decides.{nat_tests}
use Rattle.laws.specs.Lists.{any, every}
use Rattle.laws.specs.Literals.{choice, holds}
use Rattle.laws.specs.Clauses.{insert, sorted, ascends}
use Rattle.laws.specs.Checks.{repeat_from}
use Rattle.laws.specs.Sorted.{Sorting}
use Rattle.laws.proofs.Lists.{decides_has, every_weaker}

pub every_insert : (f : ℕ → Bool) (y : ℕ) (xs : List ℕ) → every f (insert y xs) ≡ (f y && every f xs)
every_insert f y [] = refl
every_insert f y (x ∷ xs) = let ih = every_insert f y xs in grind (arith, nat_tests)

pub any_insert : (f : ℕ → Bool) (y : ℕ) (xs : List ℕ) → any f (insert y xs) ≡ (f y || any f xs)
any_insert f y [] = refl
any_insert f y (x ∷ xs) = let ih = any_insert f y xs in grind (arith, nat_tests)

pub length_insert : (y : ℕ) (xs : List ℕ) → length (insert y xs) ≡ length xs + 1
length_insert y [] = refl
length_insert y (x ∷ xs) = let ih = length_insert y xs in grind (arith, nat_tests)

-- one more literal, whose choice is new, leaves the codes ascending
pub ascends_insert :
    (y : ℕ) (xs : List ℕ) → ascends xs ≡ true → any (λ x. eqb (choice x) (choice y)) xs ≡ false
    → ascends (insert y xs) ≡ true
ascends_insert y [] a f = refl
ascends_insert y (x ∷ xs) a f =
    let up = and_parts (every (λ z. ltb (choice x) (choice z)) xs) (ascends xs) a in
    let new = or_parts (eqb (choice x) (choice y)) (any (λ z. eqb (choice z) (choice y)) xs) f in
    let apart = eqb-false (choice x) (choice y) new.0 in
    cond_both (ltb y x) (y ∷ x ∷ xs) (x ∷ insert y xs) (λ zs. ascends zs ≡ true)
    (λ h. let lt : choice y < choice x = omega (arith, ltb-true y x h) in
    and_from (every (λ z. ltb (choice y) (choice z)) (x ∷ xs)) (ascends (x ∷ xs))
    (and_from (ltb (choice y) (choice x)) (every (λ z. ltb (choice y) (choice z)) xs) (lt-ltb (choice y) (choice x) lt)
    (every_weaker (λ z. ltb (choice x) (choice z)) (λ z. ltb (choice y) (choice z)) (λ z k. lt-ltb (choice y) (choice z) (omega (arith, ltb-true (choice x) (choice z) k))) xs up.0))
    a)
    (λ h. let lt : choice x < choice y = omega (arith, ltb-false y x h) in
    and_from (every (λ z. ltb (choice x) (choice z)) (insert y xs)) (ascends (insert y xs))
    (every_insert (λ z. ltb (choice x) (choice z)) y xs ∙ and_from (ltb (choice x) (choice y)) (every (λ z. ltb (choice x) (choice z)) xs) (lt-ltb (choice x) (choice y) lt) up.0)
    (ascends_insert y xs up.1 new.1))

-- the literals of codes put one by one into a list that has some in order
abbrev pub into : List ℕ → List ℕ → List ℕ
into C codes = fold (λ C l. insert l C) C codes

pub every_into : (f : ℕ → Bool) (C codes : List ℕ) → every f (into C codes) ≡ (every f C && every f codes)
every_into f C [] = sym (and-true (every f C))
every_into f C (x ∷ xs) = let ih = every_into f (insert x C) xs in let one = every_insert f x C in grind (arith, nat_tests)

pub any_into : (f : ℕ → Bool) (C codes : List ℕ) → any f (into C codes) ≡ (any f C || any f codes)
any_into f C [] = sym (or-false (any f C))
any_into f C (x ∷ xs) = let ih = any_into f (insert x C) xs in let one = any_insert f x C in grind (arith, nat_tests)

pub length_into : (C codes : List ℕ) → length (into C codes) ≡ length C + length codes
length_into C [] = omega arith
length_into C (x ∷ xs) = omega (arith, length_into (insert x C) xs, length_insert x C)

-- if no choice of codes stands twice, nor among those seen, whose literals stand in order in C, all of them ascend
pub ascends_into :
    (C seen : List ℕ) (i : ℕ) (codes : List ℕ) → ascends C ≡ true → ((f : ℕ → Bool) → any f C ≡ any f seen)
    → repeat_from seen i codes ≡ None → ascends (into C codes) ≡ true
ascends_into C seen i [] a same none = a
ascends_into C seen i (x ∷ xs) a same none =
    let new : any (λ y. eqb (choice y) (choice x)) seen ≡ false = grind (arith, nat_tests) in
    ascends_into (insert x C) (seen ++ x ∷ []) (i + 1) xs
    (ascends_insert x C a (same (λ y. eqb (choice y) (choice x)) ∙ new))
    (λ f. let one = any_insert f x C in let old = same f in let more = list_any-append f seen (x ∷ []) in grind (arith, nat_tests))
    (grind (arith, nat_tests))

pub every_sorted : (f : ℕ → Bool) (codes : List ℕ) → every f (sorted codes) ≡ every f codes
every_sorted f codes = every_into f [] codes

pub any_sorted : (f : ℕ → Bool) (codes : List ℕ) → any f (sorted codes) ≡ any f codes
any_sorted f codes = any_into f [] codes

pub length_sorted : (codes : List ℕ) → length (sorted codes) ≡ length codes
length_sorted codes = omega (arith, length_into [] codes)

pub ascends_sorted : (codes : List ℕ) → repeat_from [] 0 codes ≡ None → ascends (sorted codes) ≡ true
ascends_sorted codes none = ascends_into [] [] 0 codes refl (λ f. refl) none

pub has_sorted : (codes : List ℕ) (l : ℕ) → Contains (sorted codes) l ↔ Contains codes l
has_sorted codes l =
    let same = any_sorted (λ y. eqb y l) codes in
    let before = decides_has l codes in
    let after = decides_has l (sorted codes) in
    (λ h. before.0 (sym same ∙ after.1 h), λ h. after.0 (same ∙ before.1 h))

pub sorting : Sorting
sorting codes =
    record {
      as_many = length_sorted codes;
      same_literals = has_sorted codes;
      same_truth = λ p. any_sorted (holds p) codes;
      ascending = ascends_sorted codes;
    }
