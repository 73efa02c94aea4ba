-- The first answer that an element of a list gives, and what `find_map` returns.
use Rattle.std.proofs.Common.{◌≡◌, ℕ, zero, suc, ◌+◌, ◌<◌, true, List, [], ◌∷◌, map, length, get_or, Some, None, Option, refl, ap, ◌∙◌, arith}
use Rattle.std.specs.Bool.{⊤}
use Rattle.std.specs.Fn.{Called}
use Rattle.std.specs.Iterator.Runs.{Run, ItemsMapTo, AllItemsGive, IsFirstToGive}
use Rattle.std.specs.List.{HoldsAt}
use Rattle.std.specs.Option.{MatchOption, IsSomeAnd, option_map}
use denote.Param.Members.{Mut}
use Rattle.laws.specs.Lists.{first_some, or_else}

module _ {X Y : Type 0} (f : X → Option Y) where
  -- an element gives an answer, and none before it does
  some_answer :
      (xs : List X) (i : ℕ) (y : Y) → i < length xs → HoldsAt (λ x. Some y ≡ f x) xs i
      → ((k : ℕ) → k < i → HoldsAt (λ x. None ≡ f x) xs k) → Some y ≡ first_some f xs
  some_answer [] i y lt here before = absurd (omega arith)
  some_answer (x ∷ xs) zero y lt here before = ap (λ o. or_else o (first_some f xs)) (here x)
  some_answer (x ∷ xs) (suc i) y lt here before =
      some_answer xs i y (omega arith) here (λ k l. before (suc k) (omega arith))
      ∙ ap (λ o. or_else o (first_some f xs)) (before 0 (omega arith) x)

  -- no element gives one
  no_answer : (xs : List X) → ((k : ℕ) → k < length xs → HoldsAt (λ x. None ≡ f x) xs k) → None ≡ first_some f xs
  no_answer [] none = refl
  no_answer (x ∷ xs) none = no_answer xs (λ k l. none (suc k) (omega arith)) ∙ ap (λ o. or_else o (first_some f xs)) (none 0 (omega arith) x)

  -- a search of elements is one of what they are mapped to
  pub some_map : {W : Type 0} (g : W → X) (ws : List W) → first_some (λ w. f (g w)) ws ≡ first_some f (map g ws)
  some_map g [] = refl
  some_map g (w ∷ ws) = ap (λ o. or_else (f (g w)) o) (some_map g ws)

-- g gives the answer of each item
module _ {A B F Y : Type 0} {v : A → B} {g : Mut F (A × Unit {0}) (Option Y)} {f : F} (answer : B → Option Y)
    (says : (x : A) (r : Option Y) (q : F) → Called g f (x, tt) r q → (q ≡ f) × (r ≡ answer (v x))) where
  -- an item at a place of the list, and what it was answered
  at_item :
      (o : Option A) (r : Option Y) (xs : List B) (k : ℕ) → MatchOption o ⊤ (λ x. HoldsAt (λ y. v x ≡ y) xs k)
      → IsSomeAnd o (λ x. Called g f (x, tt) r f) → HoldsAt (λ y. r ≡ answer y) xs k
  at_item None r xs k is called = absurd called
  at_item (Some x) r xs k is called = λ d. (says x r f called).1 ∙ ap answer (is d)

  -- the same where every item was answered none, since an item came for each place
  came :
      (o : Option A) (xs : List B) (k : ℕ) → ((d : B) → option_map v o ≡ Some (get_or xs k d))
      → MatchOption o ⊤ (λ x. Called g f (x, tt) None f) → MatchOption o ⊤ (λ x. HoldsAt (λ y. v x ≡ y) xs k)
      → HoldsAt (λ y. None ≡ answer y) xs k
  came None xs k some called is = λ d. let e = some d in absurd (cc)
  came (Some x) xs k some called is = at_item (Some x) None xs k is called

module _ {S A B F Y : Type 0} {steps : S → Option A → S → Type 0} {v : A → B} {g : Mut F (A × Unit {0}) (Option Y)} {f : F} (answer : B → Option Y)
    (says : (x : A) (r : Option Y) (q : F) → Called g f (x, tt) r q → (q ≡ f) × (r ≡ answer (v x))) where
  -- the clause `runs` of `find_map`, at a run whose items are those of xs
  pub first_some_from_run :
      (p : Run steps) (xs : List B) → ItemsMapTo p v xs → (r : Option Y)
      → MatchOption r ((p.whole ≡ true) × AllItemsGive p g f None) (λ y. (i : ℕ) × (i < p.len) × (p.len ≡ i + 1) × IsFirstToGive p g f (Some y) None i)
      → r ≡ first_some answer xs
  first_some_from_run p xs m None h =
      no_answer answer xs (λ k l.
      let calls = h.1 (λ a r q k. (says a.0 r q k).0) k in
      came answer says (p.at k) xs k (λ d. m.2 k d (omega (arith, m.1 h.0))) calls (m.3 k))
  first_some_from_run p xs m (Some y) h =
      let first = h.3 (λ a r q k. (says a.0 r q k).0) in
      some_answer answer xs h.0 y (omega (arith, m.0, h.1))
      (at_item answer says (p.at h.0) (Some y) xs h.0 (m.3 h.0) first.0)
      (λ k l. at_item answer says (p.at k) None xs k (m.3 k) (first.1 k l))
