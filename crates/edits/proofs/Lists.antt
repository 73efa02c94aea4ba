-- Lists of which some elements are kept or one is removed, element by element.
use Rattle.std.proofs.Common.{◌≡◌, ℕ, suc, ◌≤◌, Bool, List, [], ◌∷◌, ◌++◌, map, length, take, drop, filter, sym, refl, ◌∙◌, ap₂, arith}
use Rattle.std.specs.List.{remove, AllZip}
use Rattle.std.proofs.lemmas.List.{append-nil, drop_all, drop-map, map-append, take_all, take-map}
use Rattle.std.proofs.lemmas.Bool.Decides.{nat_tests}

module _ {X : Type 0} where
  pub removed_past : (xs : List X) (i : ℕ) → length xs ≤ i → remove xs i ≡ xs
  removed_past xs i h = ap₂ ◌++◌ (take_all i xs h) (drop_all (suc i) xs (omega arith)) ∙ append-nil xs

module _ {X Y : Type 0} (f : X → Y) where
  pub map_kept_by : (p : Y → Bool) (xs : List X) → map f (filter (λ x. p (f x)) xs) ≡ filter p (map f xs)
  map_kept_by p [] = refl
  map_kept_by p (x ∷ xs) = let ih = map_kept_by p xs in grind (arith, nat_tests)

  -- elements that are alike place by place have the same images
  pub map_alike : (R : X → X → Type 0) (xs ys : List X) → ((x y : X) → R x y → f y ≡ f x) → AllZip R xs ys → map f ys ≡ map f xs
  map_alike R [] [] same z = refl
  map_alike R [] (y ∷ ys) same z = absurd z
  map_alike R (x ∷ xs) [] same z = absurd z
  map_alike R (x ∷ xs) (y ∷ ys) same z = ap₂ ◌∷◌ (same x y z.0) (map_alike R xs ys same z.1)

  pub map_removed : (xs : List X) (i : ℕ) → map f (remove xs i) ≡ remove (map f xs) i
  map_removed xs i = map-append f (take i xs) (drop (suc i) xs) ∙ ap₂ ◌++◌ (sym (take-map f i xs)) (sym (drop-map f (suc i) xs))
