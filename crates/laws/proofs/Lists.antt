-- Tests over mapped lists, what a test over a list says of its elements, and the first element that passes one.
use Rattle.std.proofs.Common.{◌≡◌, ℕ, zero, suc, ◌+◌, ◌<◌, Bool, true, false, cond, not, ◌||◌, eqb, ◌↔◌, List, [], ◌∷◌, map, length, get_or, Some, None, Decides, All, Contains, count_by, refl, sym, ap, subst, inl, inr, arith}
use Rattle.std.specs.List.{HoldsAt}
use Rattle.std.proofs.lemmas.List.Elements.{All-get_or, Contains-get_or, Decides-contains}
use Rattle.std.proofs.lemmas.List.Sums.{sum_by-cons}
use Rattle.std.proofs.lemmas.List.Folds.{list_all-map}
use Rattle.std.proofs.lemmas.Bool.Decides.{nat_tests, Decides-by_and, Decides-by_or, Decides-eqb}
use Rattle.std.proofs.lemmas.Bool.{and_parts, and_from, or_from, cases_Bool, both_ways}
use Rattle.laws.specs.Lists.{any, every, place_from, first, has}
use Rattle.laws.proofs.Options.{no}

module _ {X : Type 0} where
  -- what passes a test passes a weaker one
  pub every_weaker :
      (f g : X → Bool) → ((x : X) → f x ≡ true → g x ≡ true) → (xs : List X) → every f xs ≡ true → every g xs ≡ true
  every_weaker f g w [] h = refl
  every_weaker f g w (x ∷ xs) h =
      let both = and_parts (f x) (every f xs) h in
      and_from (g x) (every g xs) (w x both.0) (every_weaker f g w xs both.1)

  -- a test that holds of each element holds at each place
  pub decides_every : (f : X → Bool) (xs : List X) → Decides (every f xs) (All (λ x. f x ≡ true) xs)
  decides_every f xs = Decides-by_and f (λ x. f x ≡ true) (every f) (λ x. (λ h. h, λ h. h)) refl (λ _ _. refl) xs

  pub every_get_d :
      (f : X → Bool) (xs : List X) (k : ℕ) (d : X) → every f xs ≡ true → k < length xs → f (get_or xs k d) ≡ true
  every_get_d f xs k d h lt = All-get_or (λ x. f x ≡ true) xs k d lt ((decides_every f xs).0 h)

  -- a test that holds of some element holds at some place
  pub decides_any :
      (f : X → Bool) (xs : List X) → Decides (any f xs) ((k : ℕ) × (k < length xs) × HoldsAt (λ x. f x ≡ true) xs k)
  decides_any f xs = Decides-by_or f (λ x. f x ≡ true) (any f) (λ x. (λ h. h, λ h. h)) refl (λ _ _. refl) xs

  -- no element fails the test exactly if it holds of each
  pub place_none : (f : X → Bool) (i : ℕ) (xs : List X) → (place_from (λ x. not (f x)) i xs ≡ None) ↔ (every f xs ≡ true)
  place_none f i [] = (λ _. refl, λ _. refl)
  place_none f i (x ∷ xs) =
      let ih = place_none f (i + 1) xs in
      elim (cases_Bool (f x)) [
        | inl t ↦ (λ h. and_from (f x) (every f xs) t (ih.0 (grind (arith, nat_tests))), λ h. let more = ih.1 (and_parts (f x) (every f xs) h).1 in grind (arith, nat_tests))
        | inr u ↦ (λ h. grind (arith, nat_tests), λ h. grind (arith, nat_tests))
      ]

  -- none is counted exactly if the test holds of each
  pub count_none : (f : X → Bool) (xs : List X) → (count_by (λ x. not (f x)) xs ≡ 0) ↔ (every f xs ≡ true)
  count_none f [] = (λ _. refl, λ _. refl)
  count_none f (x ∷ xs) =
      let ih = count_none f xs in
      let one = sum_by-cons (λ x. cond {A = ℕ} (not (f x)) 1 0) x xs in
      elim (cases_Bool (f x)) [
        | inl t ↦
            let nil : cond {A = ℕ} (not (f x)) 1 0 ≡ 0 = grind (arith, nat_tests) in
            (λ h. and_from (f x) (every f xs) t (ih.0 (omega arith)), λ h. let more = ih.1 (and_parts (f x) (every f xs) h).1 in omega arith)
        | inr u ↦
            let more : cond {A = ℕ} (not (f x)) 1 0 ≡ 1 = grind (arith, nat_tests) in
            (λ h. absurd (omega arith), λ h. absurd (both_ways (f x) u (and_parts (f x) (every f xs) h).0))
      ]

-- a search of elements is one of what they are mapped to
module _ {X Y : Type 0} (f : X → Bool) (g : Y → X) where
  pub any_map : (ys : List Y) → any (λ y. f (g y)) ys ≡ any f (map g ys)
  any_map [] = refl
  any_map (y ∷ ys) = ap (λ b. f (g y) || b) (any_map ys)

  pub every_map : (ys : List Y) → every (λ y. f (g y)) ys ≡ every f (map g ys)
  every_map ys = sym (list_all-map f g ys)

  pub place_map : (i : ℕ) (ys : List Y) → place_from (λ y. f (g y)) i ys ≡ place_from f i (map g ys)
  place_map i [] = refl
  place_map i (y ∷ ys) = ap (cond (f (g y)) (Some i)) (place_map (i + 1) ys)

-- what holds at 0 and one place on below j holds below suc j
pub below_cons : (P : ℕ → Type 0) (j : ℕ) → P 0 → ((k : ℕ) → k < j → P (suc k)) → (k : ℕ) → k < suc j → P k
below_cons P j z s zero lt = z
below_cons P j z s (suc k) lt = s k (omega arith)

module _ {X : Type 0} where
  -- place j is the first of the list at which the test holds
  pub record First (f : X → Bool) (xs : List X) (d : X) (j : ℕ) : Type 0 where
    pub inside : j < length xs
    pub here : f (get_or xs j d) ≡ true
    pub before : (k : ℕ) → k < j → f (get_or xs k d) ≡ false

  first_here : (f : X → Bool) (x : X) (xs : List X) (d : X) → f x ≡ true → First f (x ∷ xs) d 0
  first_here f x xs d t = record { inside = omega arith; here = t; before = λ k lt. absurd (omega arith) }

  first_later : (f : X → Bool) (x : X) (xs : List X) (d : X) (j : ℕ) → f x ≡ false → First f xs d j → First f (x ∷ xs) d (suc j)
  first_later f x xs d j u at =
      record {
        inside = omega arith;
        here = at.here;
        before = below_cons (λ k. f (get_or (x ∷ xs) k d) ≡ false) j u at.before;
      }

  -- the place found is the first, counted from i
  pub place_some :
      (f : X → Bool) (d : X) (i : ℕ) (xs : List X) (k : ℕ) → place_from f i xs ≡ Some k
      → (j : ℕ) × (k ≡ i + j) × First f xs d j
  place_some f d i [] k h = no (cc)
  place_some f d i (x ∷ xs) k h =
      elim (cases_Bool (f x)) [
        | inl t ↦ (0, grind (arith, nat_tests), first_here f x xs d t)
        | inr u ↦
            let ih = place_some f d (i + 1) xs k (grind (arith, nat_tests)) in
            (suc ih.0, omega (arith, ih.1), first_later f x xs d ih.0 u ih.2)
      ]

  -- the element found stands at the first place
  pub first_at :
      (f : X → Bool) (d : X) (xs : List X) (x : X) → first f xs ≡ Some x → (j : ℕ) × (get_or xs j d ≡ x) × First f xs d j
  first_at f d [] x e = no (cc)
  first_at f d (y ∷ ys) x e =
      elim (cases_Bool (f y)) [
        | inl t ↦ (0, grind (arith, nat_tests), first_here f y ys d t)
        | inr u ↦
            let ih = first_at f d ys x (grind (arith, nat_tests)) in
            (suc ih.0, ih.1, first_later f y ys d ih.0 u ih.2)
      ]

  -- so it stands in the list and passes; if none is found, none passes
  pub first-some : (f : X → Bool) (xs : List X) (x : X) → first f xs ≡ Some x → Contains xs x × (f x ≡ true)
  first-some f xs x e =
      let at = first_at f x xs x e in
      (subst (Contains xs) at.1 (Contains-get_or xs at.0 x at.2.inside), subst (λ y. f y ≡ true) at.1 at.2.here)

  pub first_none : (f : X → Bool) (xs : List X) → first f xs ≡ None → any f xs ≡ false
  first_none f [] e = refl
  first_none f (x ∷ xs) e =
      elim (cases_Bool (f x)) [
        | inl t ↦ grind (arith, nat_tests)
        | inr u ↦ or_from (f x) (any f xs) u (first_none f xs (grind (arith, nat_tests)))
      ]

-- a number stands in a list exactly if it stands at some place
pub decides_has : (x : ℕ) (ys : List ℕ) → Decides (has x ys) (Contains ys x)
decides_has x ys =
    Decides-contains ys x (has x ys) (Decides-by_or (λ y. eqb y x) (λ y. y ≡ x) (has x) (λ y. Decides-eqb y x) refl (λ _ _. refl) ys)
