-- A clause's choices ascend exactly if each is lower than the next, and codes are lawful exactly if the first is no larger than
-- the largest and each goes on behind the one before.
use Rattle.std.proofs.Common.{◌≡◌, ℕ, zero, suc, ◌<◌, Bool, true, false, cond, ◌&&◌, ltb, leb, List, [], ◌∷◌, length, get_or, sym, refl, ap, ◌∙◌, add-one, arith}
use Rattle.std.proofs.lemmas.Bool.{and_from, and_left, and_right, and_parts, lt-ltb, ltb-true}
use Rattle.std.specs.List.{IsAllAdjacentAnswer}
use Rattle.laws.specs.Clauses.{within, ascends, lawful}
use Rattle.laws.specs.Lists.{every}
use Rattle.laws.specs.Literals.{choice, top}
use Rattle.laws.proofs.Lists.{every_weaker}

-- the first choice is lower than the second
abbrev lower : ℕ → ℕ → Bool
lower x y = ltb (choice x) (choice y)

ascends_if : (C : List ℕ) → ((k d : ℕ) → suc k < length C → true ≡ lower (get_or C k d) (get_or C (suc k) d)) → ascends C ≡ true
ascends_if [] next = refl
ascends_if (x ∷ []) next = refl
ascends_if (x ∷ y ∷ C) next =
    let here : lower x y ≡ true = sym (next 0 0 (omega arith)) in
    let behind = ascends_if (y ∷ C) (λ k d l. next (suc k) d (omega arith)) in
    let further = λ (z : ℕ) (t : lower y z ≡ true). lt-ltb (choice x) (choice z) (omega (arith, ltb-true (choice x) (choice y) here, ltb-true (choice y) (choice z) t)) in
    let above = every_weaker (lower y) (lower x) further C (and_parts (every (lower y) C) (ascends C) behind).0 in
    and_from (every (lower x) (y ∷ C)) (ascends (y ∷ C)) (and_from (lower x y) (every (lower x) C) here above) behind

fails_if : (C : List ℕ) (k : ℕ) → suc k < length C → ((d : ℕ) → false ≡ lower (get_or C k d) (get_or C (suc k) d)) → ascends C ≡ false
fails_if [] k lt next = absurd (omega arith)
fails_if (x ∷ []) k lt next = absurd (omega arith)
fails_if (x ∷ y ∷ C) zero lt next = and_left (every (lower x) (y ∷ C)) _ (and_left (lower x y) _ (sym (next 0)))
fails_if (x ∷ y ∷ C) (suc k) lt next = and_right (every (lower x) (y ∷ C)) _ (fails_if (y ∷ C) k (omega arith) next)

-- what `is_sorted_by` says of the choices
pub ascends_from_adjacent : (C : List ℕ) (r : Bool) → IsAllAdjacentAnswer (λ x y b. b ≡ ltb (choice x) (choice y)) C r → r ≡ ascends C
ascends_from_adjacent C true h =
    sym (ascends_if C (λ k d l. h k d (omega arith) ∙ ap (λ j. lower (get_or C k d) (get_or C j d)) (add-one k)))
ascends_from_adjacent C false h =
    sym (fails_if C h.0 (omega (arith, h.1)) (λ d. h.2 d ∙ ap (λ j. lower (get_or C h.0 d) (get_or C j d)) (add-one h.0)))

-- none of the codes is above m, if the first is not and none that follows another
within_if : (m : ℕ) (C : List ℕ) → leb (get_or C 0 0) m ≡ true → ((k d : ℕ) → suc k < length C → leb (get_or C (suc k) d) m ≡ true)
    → every (λ l. leb l m) C ≡ true
within_if m [] first next = refl
within_if m (x ∷ []) first next = and_from (leb x m) true first refl
within_if m (x ∷ y ∷ C) first next =
    and_from (leb x m) (every (λ l. leb l m) (y ∷ C)) first
    (within_if m (y ∷ C) (next 0 0 (omega arith)) (λ k d l. next (suc k) d (omega arith)))

-- a code goes on behind another: its choice is higher, and it is at most m
abbrev goes_on : ℕ → ℕ → ℕ → Bool
goes_on m x y = lower x y && leb y m

behind_fails : (a w e s : Bool) → (w && s) ≡ false → ((a && w) && (e && s)) ≡ false
behind_fails false w e s h = refl
behind_fails true false e s h = refl
behind_fails true true false s h = refl
behind_fails true true true s h = h

here_fails : (a b w l e s : Bool) → (l && b) ≡ false → ((a && (b && w)) && ((l && e) && s)) ≡ false
here_fails false b w l e s h = refl
here_fails true false w l e s h = refl
here_fails true true false l e s h = refl
here_fails true true true false e s h = refl
here_fails true true true true e s h = ap (λ b. cond b (e && s) false) h

lawful_fails : (n : ℕ) (C : List ℕ) (k : ℕ) → suc k < length C → ((d : ℕ) → false ≡ goes_on (top n) (get_or C k d) (get_or C (suc k) d)) → lawful n C ≡ false
lawful_fails n [] k lt next = absurd (omega arith)
lawful_fails n (x ∷ []) k lt next = absurd (omega arith)
lawful_fails n (x ∷ y ∷ C) zero lt next =
    here_fails (leb x (top n)) (leb y (top n)) (within n C) (lower x y) (every (lower x) C) (ascends (y ∷ C)) (sym (next 0))
lawful_fails n (x ∷ y ∷ C) (suc k) lt next =
    behind_fails (leb x (top n)) (within n (y ∷ C)) (every (lower x) (y ∷ C)) (ascends (y ∷ C)) (lawful_fails n (y ∷ C) k (omega arith) next)

-- what `is_sorted_by` says of codes of which each goes on behind the one before, the first being no larger than the largest
pub lawful_from_adjacent :
    (n : ℕ) (C : List ℕ) (r : Bool) → leb (get_or C 0 0) (top n) ≡ true
    → IsAllAdjacentAnswer (λ x y b. b ≡ (ltb (choice x) (choice y) && leb y (top n))) C r → r ≡ lawful n C
lawful_from_adjacent n C true first h =
    let at = λ (k d : ℕ) (l : suc k < length C).
    let a = get_or C k d in
    let b = get_or C (suc k) d in
    and_parts (lower a b) (leb b (top n)) (sym (h k d (omega arith) ∙ ap (λ j. goes_on (top n) a (get_or C j d)) (add-one k))) in
    sym (and_from (within n C) (ascends C) (within_if (top n) C first (λ k d l. (at k d l).1)) (ascends_if C (λ k d l. sym (at k d l).0)))
lawful_from_adjacent n C false first h =
    sym (lawful_fails n C h.0 (omega (arith, h.1)) (λ d. h.2 d ∙ ap (λ j. goes_on (top n) (get_or C h.0 d) (get_or C j d)) (add-one h.0)))
