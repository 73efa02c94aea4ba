-- Tests over lists, and the place of the first element that passes one.
use Rattle.std.specs.Prelude.{ℕ, Bool, List, [], ◌∷◌, Some, None, Option, nat_eq}
use Rattle.std.specs.List.{list_any, list_all, find, position_from}

module _ {X : Type 0} where
  -- the test holds of some element
  abbrev pub any : (X → Bool) → List X → Bool
  any f xs = list_any f xs

  -- the test holds of each element
  abbrev pub every : (X → Bool) → List X → Bool
  every f xs = list_all f xs

  -- the place of the first element that passes the test, counted from i
  abbrev pub place_from : (X → Bool) → ℕ → List X → Option ℕ
  place_from f i xs = position_from f i xs

  -- the place of the first element that passes the test
  abbrev pub place : (X → Bool) → List X → Option ℕ
  place f xs = place_from f 0 xs

  -- the first element that passes the test
  abbrev pub first : (X → Bool) → List X → Option X
  first f xs = find f xs

  -- the first answer, unless it is missing
  abbrev pub or_else : Option X → Option X → Option X
  or_else None o = o
  or_else (Some x) o = Some x

module _ {X Y : Type 0} where
  -- the first answer that an element gives
  abbrev pub first_some : (X → Option Y) → List X → Option Y
  first_some f [] = None
  first_some f (x ∷ xs) = or_else (f x) (first_some f xs)

-- the number stands in the list
abbrev pub has : ℕ → List ℕ → Bool
has x ys = any (λ y. nat_eq y x) ys
