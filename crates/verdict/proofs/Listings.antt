-- What is said of the elements of a list, one behind the other, as far as a loop has come.
use Rattle.std.proofs.Common.{◌≡◌, ℕ, ◌+◌, ◌<◌, List, [], ◌∷◌, ◌++◌, length, get_or, take, sym, ap, ◌∙◌, arith, add-zero}
use Rattle.std.proofs.lemmas.List.{append_assoc, append-nil, length-take-le, take_more}
use Rattle.verdict.specs.Words.{listed}

module _ {X : Type 0} (f : ℕ → X → List ℕ) where
  listed_append : (i : ℕ) (xs ys : List X) → listed f i (xs ++ ys) ≡ listed f i xs ++ listed f (i + length xs) ys
  listed_append i [] ys = ap (λ n. listed f n ys) (sym (add-zero i))
  listed_append i (x ∷ xs) ys =
      let next : (i + 1) + length xs ≡ i + length (x ∷ xs) = omega arith in
      ap (λ t. f i x ++ t) (listed_append (i + 1) xs ys)
      ∙ sym (append_assoc (f i x) (listed f (i + 1) xs) (listed f ((i + 1) + length xs) ys))
      ∙ ap (λ n. (f i x ++ listed f (i + 1) xs) ++ listed f n ys) next

  -- one element more
  pub listed_more : (i : ℕ) (xs : List X) (d : X) → i < length xs
      → listed f 0 (take i xs) ++ f i (get_or xs i d) ≡ listed f 0 (take (i + 1) xs)
  listed_more i xs d lt =
      let here : 0 + length (take i xs) ≡ i = omega (arith, length-take-le i xs) in
      sym (ap (listed f 0) (take_more xs i d lt) ∙ listed_append 0 (take i xs) (get_or xs i d ∷ [])
      ∙ ap (λ n. listed f 0 (take i xs) ++ (f n (get_or xs i d) ++ [])) here
      ∙ ap (λ t. listed f 0 (take i xs) ++ t) (append-nil (f i (get_or xs i d))))
