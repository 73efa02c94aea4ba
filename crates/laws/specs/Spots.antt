-- The lowest position, and in its clause the lowest literal, that pass a test.
use Rattle.std.specs.Prelude.{◌≡◌, ℕ, ◌+◌, ◌<◌, Bool, true, false, List, [], ◌∷◌, length, Some, None, Contains, Option, slice_index, slice_index_or}
use Rattle.std.specs.Option.{option_map}
use Rattle.laws.specs.Lists.{first, or_else}

-- a position, the clause there, and one of its literals
pub record Spot : Type 0 where
  pub at : ℕ
  pub clause : List ℕ
  pub literal : ℕ

-- the first spot that passes, positions counted from i; clauses ascend, so their first literal is the lowest
abbrev pub spot_from : (List ℕ → ℕ → Bool) → ℕ → List (List ℕ) → Option Spot
spot_from f i [] = None
spot_from f i (C ∷ Cs) =
    or_else (option_map (λ l. record { at = i; clause = C; literal = l }) (first (f C) C)) (spot_from f (i + 1) Cs)

abbrev pub spot : (List ℕ → ℕ → Bool) → List (List ℕ) → Option Spot
spot f Cs = spot_from f 0 Cs

-- s is the first spot that passes, in the subject's words: its clause is the one at its position, its literal stands in
-- it and the two pass; no literal of a clause at a lower position passes, and no literal before its own place in the
-- clause does
pub record FirstSpot (f : List ℕ → ℕ → Bool) (Cs : List (List ℕ)) (s : Spot) : Type 0 where
  pub inside : s.at < length Cs
  pub clause_is : s.clause ≡ slice_index_or Cs s.at []
  pub literal : Contains s.clause s.literal
  pub passes : f s.clause s.literal ≡ true
  pub lower : (i : ℕ) → i < s.at → (l : ℕ) → Contains (slice_index_or Cs i []) l → f (slice_index_or Cs i []) l ≡ false
  pub earlier : (j : ℕ) → j < literal.0 → f s.clause (slice_index s.clause j) ≡ false

-- a spot that is found is the first that passes; if none is found, no literal of a clause passes
pub record SpotOf (f : List ℕ → ℕ → Bool) (Cs : List (List ℕ)) : Type 0 where
  pub found : (s : Spot) → spot f Cs ≡ Some s → FirstSpot f Cs s
  pub none : spot f Cs ≡ None → (C : List ℕ) → Contains Cs C → (l : ℕ) → Contains C l → f C l ≡ false

-- this holds of every test and all clauses
abbrev pub Spotting : Type 0
Spotting = (f : List ℕ → ℕ → Bool) (Cs : List (List ℕ)) → SpotOf f Cs
