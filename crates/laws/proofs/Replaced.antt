-- Lists with one element removed or replaced: tests, and the literals of clauses.
use Rattle.std.proofs.Common.{◌≡◌, ℕ, zero, suc, ◌+◌, ◌<◌, ◌≤◌, Bool, true, ◌&&◌, List, [], ◌∷◌, length, get_or, set, refl, arith}
use Rattle.std.specs.List.{remove}
use Rattle.std.proofs.lemmas.Bool.{and_parts, and_from}
use Rattle.std.proofs.lemmas.Bool.Decides.{nat_tests}
use Rattle.laws.specs.Clauses.{literals}
use Rattle.laws.specs.Lists.{every}

module _ {X : Type 0} (f : X → Bool) where
  -- a list passes a test exactly if one of its elements and the list without it do
  pub every_parted :
      (xs : List X) (i : ℕ) (d : X) → i < length xs → every f xs ≡ (f (get_or xs i d) && every f (remove xs i))
  every_parted [] i d lt = absurd (omega arith)
  every_parted (x ∷ xs) zero d lt = refl
  every_parted (x ∷ xs) (suc i) d lt = let ih = every_parted xs i d (omega arith) in grind (arith, nat_tests)

  -- a list that passes a test passes it with an element removed, at any place
  pub every_removed : (xs : List X) (i : ℕ) → every f xs ≡ true → every f (remove xs i) ≡ true
  every_removed [] zero h = refl
  every_removed [] (suc i) h = refl
  every_removed (x ∷ xs) zero h = (and_parts (f x) (every f xs) h).1
  every_removed (x ∷ xs) (suc i) h =
      let both = and_parts (f x) (every f xs) h in
      and_from (f x) (every f (remove xs i)) both.0 (every_removed xs i both.1)

  -- and with an element replaced by one that passes it
  pub every_set : (xs : List X) (i : ℕ) (x : X) → every f xs ≡ true → f x ≡ true → every f (set xs i x) ≡ true
  every_set [] i x h t = refl
  every_set (y ∷ ys) zero x h t = and_from (f x) (every f ys) t (and_parts (f y) (every f ys) h).1
  every_set (y ∷ ys) (suc i) x h t =
      let both = and_parts (f y) (every f ys) h in
      and_from (f y) (every f (set ys i x)) both.0 (every_set ys i x both.1 t)

  -- and the way back, if the element replaced passes it whenever the new one does
  pub every_unset :
      (xs : List X) (i : ℕ) (x d : X) → i < length xs → (f x ≡ true → f (get_or xs i d) ≡ true)
      → every f (set xs i x) ≡ true → every f xs ≡ true
  every_unset [] i x d lt w h = refl
  every_unset (y ∷ ys) zero x d lt w h =
      let both = and_parts (f x) (every f ys) h in
      and_from (f y) (every f ys) (w both.0) both.1
  every_unset (y ∷ ys) (suc i) x d lt w h =
      let both = and_parts (f y) (every f (set ys i x)) h in
      and_from (f y) (every f ys) both.0 (every_unset ys i x d (omega arith) w both.1)

pub length_removed_le : {X : Type 0} (xs : List X) (i : ℕ) → length (remove xs i) ≤ length xs
length_removed_le [] zero = omega arith
length_removed_le [] (suc i) = omega arith
length_removed_le (x ∷ xs) zero = omega arith
length_removed_le (x ∷ xs) (suc i) = omega (arith, length_removed_le xs i)

pub literals_removed : (Cs : List (List ℕ)) (i : ℕ) → literals (remove Cs i) ≤ literals Cs
literals_removed [] zero = omega arith
literals_removed [] (suc i) = omega arith
literals_removed (C ∷ Cs) zero = omega arith
literals_removed (C ∷ Cs) (suc i) = omega (arith, literals_removed Cs i)

pub literals_set :
    (Cs : List (List ℕ)) (i : ℕ) (D : List ℕ) → i < length Cs
    → literals (set Cs i D) + length (get_or Cs i []) ≡ literals Cs + length D
literals_set [] i D lt = absurd (omega arith)
literals_set (C ∷ Cs) zero D lt = omega arith
literals_set (C ∷ Cs) (suc i) D lt = omega (arith, literals_set Cs i D (omega arith))
