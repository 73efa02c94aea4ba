-- Elements of lists by tests: what some, each and the kept elements say.
use Rattle.std.proofs.Common.{◌≡◌, ℕ, zero, suc, ◌<◌, ◌≤◌, Bool, true, false, ◌&&◌, ltb, leb, ◌⊎◌, List, [], ◌∷◌, length, Contains, filter, sym, refl, ap, ◌∙◌, subst, inl, inr, arith}
use Rattle.std.proofs.lemmas.List.Elements.{All-contains, All-contains_itself, All-filter, at_from_Contains, filter_passes}
use Rattle.std.proofs.lemmas.List.Sums.{length-filter, count_by-le-length}
use Rattle.std.proofs.lemmas.Bool.{and_parts, and_from, both_ways, or_cases, cond_both, false_from_ne_true}
use Rattle.std.proofs.lemmas.Bool.Decides.{nat_tests}
use Rattle.laws.specs.Clauses.{ascends, lawful, literals, within}
use Rattle.laws.specs.Lists.{any, every}
use Rattle.laws.specs.Literals.{choice, top}
use Rattle.laws.proofs.Lists.{decides_any, decides_every}
use Rattle.laws.proofs.Options.{no}

module _ {X : Type 0} where
  -- the first element stands in a list, and so does what stands behind it
  pub has_here : (x : X) (xs : List X) → Contains (x ∷ xs) x
  has_here x xs = (0, omega arith, refl)

  pub has_later : (x : X) (xs : List X) (y : X) → Contains xs y → Contains (x ∷ xs) y
  has_later x xs y (k, lt, is) = (suc k, omega arith, is)

  pub has_cases : (x : X) (xs : List X) (y : X) → Contains (x ∷ xs) y → (x ≡ y) ⊎ Contains xs y
  has_cases x xs y (zero, lt, is) = inl is
  has_cases x xs y (suc k, lt, is) = inr (k, omega arith, is)

  pub has_none : (y : X) → Contains [] y → ⊥
  has_none y (k, lt, is) = omega arith

  -- some element passes exactly if one that stands in the list does
  pub any_witness : (f : X → Bool) (xs : List X) → any f xs ≡ true → (x : X) × Contains xs x × (f x ≡ true)
  any_witness f [] h = no (cc)
  any_witness f (x ∷ xs) h =
      elim (or_cases (f x) (any f xs) h) [
        | inl t ↦ (x, has_here x xs, t)
        | inr more ↦ let ih = any_witness f xs more in (ih.0, has_later x xs ih.0 ih.1, ih.2)
      ]

  pub any_from : (f : X → Bool) (xs : List X) (x : X) → Contains xs x → f x ≡ true → any f xs ≡ true
  any_from f xs x stands t =
      let (k, lt, at) = at_from_Contains xs x stands in
      (decides_any f xs).1 (k, lt, λ d. subst (λ y. f y ≡ true) (sym (at d)) t)

  -- no element passes exactly if none that stands in the list does
  pub any_none : (f : X → Bool) (xs : List X) (x : X) → any f xs ≡ false → Contains xs x → f x ≡ false
  any_none f xs x none stands = false_from_ne_true (f x) (λ t. both_ways (any f xs) none (any_from f xs x stands t))

  pub none_from : (f : X → Bool) (xs : List X) → ((x : X) → Contains xs x → f x ≡ true → ⊥) → any f xs ≡ false
  none_from f xs h = false_from_ne_true (any f xs) (λ t. let (x, stands, passes) = any_witness f xs t in h x stands passes)

  -- each element passes exactly if all that stand in the list do
  pub every_at : (f : X → Bool) (xs : List X) (x : X) → every f xs ≡ true → Contains xs x → f x ≡ true
  every_at f xs x h stands = All-contains (λ y. f y ≡ true) xs x ((decides_every f xs).0 h) stands

  pub every_from : (f : X → Bool) (xs : List X) → ((x : X) → Contains xs x → f x ≡ true) → every f xs ≡ true
  every_from f [] h = refl
  every_from f (x ∷ xs) h =
      and_from (f x) (every f xs) (h x (has_here x xs)) (every_from f xs (λ y stands. h y (has_later x xs y stands)))

  -- what is kept stands in the list and passes
  pub kept_stands : (g : X → Bool) (xs : List X) (x : X) → Contains (filter g xs) x → Contains xs x × (g x ≡ true)
  kept_stands g xs x stands = (
    All-contains (Contains xs) (filter g xs) x (All-filter g (Contains xs) xs (All-contains_itself xs)) stands,
    All-contains (λ y. g y ≡ true) (filter g xs) x (filter_passes g xs) stands,
  )

  pub stands_kept : (g : X → Bool) (xs : List X) (x : X) → Contains xs x → g x ≡ true → Contains (filter g xs) x
  stands_kept g [] x stands t = absurd (has_none x stands)
  stands_kept g (y ∷ ys) x stands t =
      let behind = has_cases y ys x stands in
      cond_both (g y) (y ∷ filter g ys) (filter g ys) (λ zs. Contains zs x)
      (λ passes. elim behind [
        | inl same ↦ subst (Contains (y ∷ filter g ys)) same (has_here y (filter g ys))
        | inr later ↦ has_later y (filter g ys) x (stands_kept g ys x later t)
      ])
      (λ fails. elim behind [
        | inl same ↦ absurd (both_ways (g y) fails (ap g same ∙ t))
        | inr later ↦ stands_kept g ys x later t
      ])

  pub every_kept_by : (f g : X → Bool) (xs : List X) → every f xs ≡ true → every f (filter g xs) ≡ true
  every_kept_by f g [] h = refl
  every_kept_by f g (x ∷ xs) h =
      let both = and_parts (f x) (every f xs) h in
      let first = both.0 in
      let ih = every_kept_by f g xs both.1 in
      grind (arith, nat_tests)

  pub any_kept_by : (f g : X → Bool) (xs : List X) → any f (filter g xs) ≡ any (λ x. g x && f x) xs
  any_kept_by f g [] = refl
  any_kept_by f g (x ∷ xs) = let ih = any_kept_by f g xs in grind (arith, nat_tests)

  pub length_kept_by_le : (g : X → Bool) (xs : List X) → length (filter g xs) ≤ length xs
  length_kept_by_le g xs = omega (arith, length-filter g xs, count_by-le-length g xs)

  -- a weaker test keeps no fewer elements, and more if it alone passes one
  pub length_kept_by_weaker :
      (f g : X → Bool) → ((x : X) → f x ≡ true → g x ≡ true) → (xs : List X)
      → length (filter f xs) ≤ length (filter g xs)
  length_kept_by_weaker f g w [] = omega arith
  length_kept_by_weaker f g w (x ∷ xs) =
      let ih = length_kept_by_weaker f g w xs in let here = w x in grind (arith, nat_tests)

  pub length_kept_by_fewer :
      (f g : X → Bool) → ((x : X) → f x ≡ true → g x ≡ true) → (xs : List X) (x : X) → Contains xs x → f x ≡ false → g x ≡ true
      → length (filter f xs) < length (filter g xs)
  length_kept_by_fewer f g w [] y stands out in' = absurd (has_none y stands)
  length_kept_by_fewer f g w (x ∷ xs) y stands out in' =
      let here = w x in
      elim (has_cases x xs y stands) [
        | inl same ↦
            let fails : f x ≡ false = ap f same ∙ out in
            let passes : g x ≡ true = ap g same ∙ in' in
            let rest = length_kept_by_weaker f g w xs in
            grind (arith, nat_tests)
        | inr later ↦ let ih = length_kept_by_fewer f g w xs y later out in' in grind (arith, nat_tests)
      ]

ascends_kept_by : (g : ℕ → Bool) (C : List ℕ) → ascends C ≡ true → ascends (filter g C) ≡ true
ascends_kept_by g [] h = refl
ascends_kept_by g (x ∷ xs) h =
    let up = and_parts (every (λ y. ltb (choice x) (choice y)) xs) (ascends xs) h in
    let above = every_kept_by (λ y. ltb (choice x) (choice y)) g xs up.0 in
    let ih = ascends_kept_by g xs up.1 in
    grind (arith, nat_tests)

-- a lawful clause stays lawful with fewer literals
pub lawful_kept_by : (n : ℕ) (g : ℕ → Bool) (C : List ℕ) → lawful n C ≡ true → lawful n (filter g C) ≡ true
lawful_kept_by n g C h =
    let both = and_parts (within n C) (ascends C) h in
    and_from (within n (filter g C)) (ascends (filter g C)) (every_kept_by (λ l. leb l (top n)) g C both.0) (ascends_kept_by g C both.1)

pub literals_kept_by : (g : List ℕ → Bool) (Cs : List (List ℕ)) → literals (filter g Cs) ≤ literals Cs
literals_kept_by g [] = omega arith
literals_kept_by g (C ∷ Cs) = let ih = literals_kept_by g Cs in grind (arith, nat_tests)
