-- Resolvents: which literals stand in them, that they are lawful, and what all of them say together.
use Rattle.std.proofs.Common.{◌≡◌, ℕ, Bool, true, false, not, ◌&&◌, ◌||◌, eqb, ltb, leb, ◌⊎◌, List, [], ◌∷◌, Contains, sym, refl, ◌∙◌, subst, inl, inr, arith}
use Rattle.std.proofs.Math.Bool.{and-true, or-false}
use Rattle.std.proofs.lemmas.List.Folds.{list_all-append, list_any-append}
use Rattle.std.proofs.lemmas.Bool.{cases_Bool, and_parts, and_from, or_cases, or_parts, or_from, or_left, or_right, both_ways, not-true, eqb-true, eqb-false, ltb-true, cond_both, false_from_ne_true}
use Rattle.std.proofs.lemmas.Bool.Decides.{nat_tests}
use Rattle.laws.specs.Clauses.{within, ascends, lawful, insert}
use Rattle.laws.specs.Lists.{any, every, has}
use Rattle.laws.specs.Literals.{choice, neg, top, taking, leaving}
use Rattle.laws.specs.Resolving.{apart, join, union, clash, resolvent, resolvents_of, resolvents_all, holding, others, resolvents, resolved}
use Rattle.laws.specs.Tables.{occurs_in}
use Rattle.laws.proofs.Kept.{any_witness, any_from, none_from, every_at, every_from, kept_stands, every_kept_by, any_kept_by, lawful_kept_by}
use Rattle.laws.proofs.Lists.{decides_has}
use Rattle.laws.proofs.Occurring.{occurs_from}
use Rattle.laws.proofs.Setting.{same_or_neg}
use Rattle.laws.proofs.Sorted.{any_insert, every_insert, ascends_insert}

-- a test that brings another adds nothing to it
or_absorbs : (a b : Bool) → (a ≡ true → b ≡ true) → b ≡ (a || b)
or_absorbs true b h = h refl
or_absorbs false b h = refl

and_absorbs : (a b : Bool) → (b ≡ true → a ≡ true) → b ≡ (a && b)
and_absorbs a true h = sym (h refl) ∙ sym (and-true a)
and_absorbs true false h = refl
and_absorbs false false h = refl

-- a joined literal stands in the clause, with the others
any_join : (f : ℕ → Bool) (y : ℕ) (C : List ℕ) → any f (join y C) ≡ (f y || any f C)
any_join f y C =
    cond_both (has y C) C (insert y C) (λ D. any f D ≡ (f y || any f C))
    (λ there. or_absorbs (f y) (any f C) (any_from f C y ((decides_has y C).0 there)))
    (λ new. any_insert f y C)

every_join : (f : ℕ → Bool) (y : ℕ) (C : List ℕ) → every f (join y C) ≡ (f y && every f C)
every_join f y C =
    cond_both (has y C) C (insert y C) (λ D. every f D ≡ (f y && every f C))
    (λ there. and_absorbs (f y) (every f C) (λ h. every_at f C y h ((decides_has y C).0 there)))
    (λ new. every_insert f y C)

-- in a union stand the literals of both clauses
pub any_union : (f : ℕ → Bool) (C D : List ℕ) → any f (union C D) ≡ (any f C || any f D)
any_union f C [] = sym (or-false (any f C))
any_union f C (y ∷ ys) = let one = any_join f y (union C ys) in let ih = any_union f C ys in grind (arith, nat_tests)

every_union : (f : ℕ → Bool) (C D : List ℕ) → every f (union C D) ≡ (every f C && every f D)
every_union f C [] = sym (and-true (every f C))
every_union f C (y ∷ ys) = let one = every_join f y (union C ys) in let ih = every_union f C ys in grind (arith, nat_tests)

-- the codes still ascend with one literal more whose negation is not there
ascends_join : (y : ℕ) (C : List ℕ) → ascends C ≡ true → has (neg y) C ≡ false → ascends (join y C) ≡ true
ascends_join y C a free =
    cond_both (has y C) C (insert y C) (λ D. ascends D ≡ true) (λ there. a)
    (λ new. ascends_insert y C a
    (none_from (λ x. eqb (choice x) (choice y)) C
    (λ x stands same. elim (same_or_neg x y (eqb-true (choice x) (choice y) same)) [
      | inl e ↦ both_ways (has y C) new ((decides_has y C).1 (subst (Contains C) e stands))
      | inr e ↦ both_ways (has (neg y) C) free ((decides_has (neg y) C).1 (subst (Contains C) e stands))
    ])))

-- in ascending codes the first literal's negation does not stand behind it
neg_not_behind : (y : ℕ) (ys : List ℕ) → ascends (y ∷ ys) ≡ true → has (neg y) ys ≡ false
neg_not_behind y ys a =
    false_from_ne_true (has (neg y) ys)
    (λ there.
    let up = (and_parts (every (λ z. ltb (choice y) (choice z)) ys) (ascends ys) a).0 in
    let higher = every_at (λ z. ltb (choice y) (choice z)) ys (neg y) up ((decides_has (neg y) ys).0 there) in
    omega (arith, ltb-true (choice y) (choice (neg y)) higher))

-- the union of clauses that do not disagree ascends
ascends_union :
    (C D : List ℕ) → ascends C ≡ true → ascends D ≡ true → any (λ l. has (neg l) C) D ≡ false
    → ascends (union C D) ≡ true
ascends_union C [] a b free = a
ascends_union C (y ∷ ys) a b free =
    let agree = or_parts (has (neg y) C) (any (λ l. has (neg l) C) ys) free in
    ascends_join y (union C ys)
    (ascends_union C ys a (and_parts (every (λ z. ltb (choice y) (choice z)) ys) (ascends ys) b).1 agree.1)
    (any_union (λ z. eqb z (neg y)) C ys ∙ or_from (has (neg y) C) (has (neg y) ys) agree.0 (neg_not_behind y ys b))

-- a test over a resolvent is a test over the literals of other choices, in either clause
pub any_resolvent :
    (f : ℕ → Bool) (c : ℕ) (C D : List ℕ)
    → any f (resolvent c C D) ≡ (any (λ l. not (eqb (choice l) c) && f l) C || any (λ l. not (eqb (choice l) c) && f l) D)
any_resolvent f c C D =
    let whole = any_union f (apart c C) (apart c D) in
    let left = any_kept_by f (λ l. not (eqb (choice l) c)) C in
    let right = any_kept_by f (λ l. not (eqb (choice l) c)) D in
    cc

module _ (n c : ℕ) (C D : List ℕ) (free : clash c C D ≡ false) where
  -- apart from c the clauses do not disagree
  agrees_apart : any (λ l. has (neg l) (apart c C)) (apart c D) ≡ false
  agrees_apart =
      none_from (λ l. has (neg l) (apart c C)) (apart c D)
      (λ l stands opposed.
      let here = kept_stands (λ m. not (eqb (choice m) c)) D l stands in
      let there = kept_stands (λ m. not (eqb (choice m) c)) C (neg l) ((decides_has (neg l) (apart c C)).0 opposed) in
      both_ways (clash c C D) free
      (any_from (λ m. not (eqb (choice m) c) && has (neg m) C) D l here.0
      (and_from (not (eqb (choice l) c)) (has (neg l) C) here.1 ((decides_has (neg l) C).1 there.0))))

  -- a resolvent of lawful clauses is lawful
  lawful_resolvent : lawful n C ≡ true → lawful n D ≡ true → lawful n (resolvent c C D) ≡ true
  lawful_resolvent ok also =
      let left = and_parts (within n (apart c C)) (ascends (apart c C)) (lawful_kept_by n (λ l. not (eqb (choice l) c)) C ok) in
      let right = and_parts (within n (apart c D)) (ascends (apart c D)) (lawful_kept_by n (λ l. not (eqb (choice l) c)) D also) in
      and_from (within n (resolvent c C D)) (ascends (resolvent c C D))
      (every_union (λ l. leb l (top n)) (apart c C) (apart c D) ∙ and_from (within n (apart c C)) (within n (apart c D)) left.0 right.0)
      (ascends_union (apart c C) (apart c D) left.1 right.1 agrees_apart)

-- what holds of all resolvents holds of each pair's that does not clash
module _ (g : List ℕ → Bool) (c : ℕ) where
  every_resolvents_of :
      (C : List ℕ) (Ds : List (List ℕ)) → every g (resolvents_of c C Ds) ≡ every (λ D. clash c C D || g (resolvent c C D)) Ds
  every_resolvents_of C [] = refl
  every_resolvents_of C (D ∷ Ds) = let ih = every_resolvents_of C Ds in grind (arith, nat_tests)

  pub every_resolvents :
      (Cs Ds : List (List ℕ))
      → every g (resolvents_all c Cs Ds) ≡ every (λ C. every (λ D. clash c C D || g (resolvent c C D)) Ds) Cs
  every_resolvents [] Ds = refl
  every_resolvents (C ∷ Cs) Ds =
      let whole = list_all-append g (resolvents_of c C Ds) (resolvents_all c Cs Ds) in
      let one = every_resolvents_of C Ds in
      let ih = every_resolvents Cs Ds in
      cc

  -- and what holds of some resolvent, of one pair's
  any_resolvents_of :
      (C : List ℕ) (Ds : List (List ℕ)) → any g (resolvents_of c C Ds) ≡ any (λ D. not (clash c C D) && g (resolvent c C D)) Ds
  any_resolvents_of C [] = refl
  any_resolvents_of C (D ∷ Ds) = let ih = any_resolvents_of C Ds in grind (arith, nat_tests)

  any_resolvents :
      (Cs Ds : List (List ℕ))
      → any g (resolvents_all c Cs Ds) ≡ any (λ C. any (λ D. not (clash c C D) && g (resolvent c C D)) Ds) Cs
  any_resolvents [] Ds = refl
  any_resolvents (C ∷ Cs) Ds =
      let whole = list_any-append g (resolvents_of c C Ds) (resolvents_all c Cs Ds) in
      let one = any_resolvents_of C Ds in
      let ih = any_resolvents Cs Ds in
      cc

-- the clauses with c resolved
module _ (c : ℕ) (Cs : List (List ℕ)) where
  -- they are lawful if the clauses are
  pub resolved_lawful : (n : ℕ) → every (lawful n) Cs ≡ true → every (lawful n) (resolved c Cs) ≡ true
  resolved_lawful n ok =
      list_all-append (lawful n) (others c Cs) (resolvents c Cs)
      ∙ and_from (every (lawful n) (others c Cs)) (every (lawful n) (resolvents c Cs))
      (every_kept_by (lawful n) (λ C. not (any (λ l. eqb (choice l) c) C)) Cs ok)
      (every_resolvents (lawful n) c (holding (taking c) Cs) (holding (leaving c) Cs)
      ∙ every_from (λ C. every (λ D. clash c C D || lawful n (resolvent c C D)) (holding (leaving c) Cs)) (holding (taking c) Cs)
      (λ C in'. every_from (λ D. clash c C D || lawful n (resolvent c C D)) (holding (leaving c) Cs)
      (λ D also. elim (cases_Bool (clash c C D)) [
        | inl against ↦ or_left (clash c C D) (lawful n (resolvent c C D)) against
        | inr free ↦
            or_right (clash c C D) (lawful n (resolvent c C D))
            (lawful_resolvent n c C D free
            (every_at (lawful n) Cs C ok (kept_stands (has (taking c)) Cs C in').0)
            (every_at (lawful n) Cs D ok (kept_stands (has (leaving c)) Cs D also).0))
      ])))

  -- a literal of one of the clauses that is not of c
  other_occurs :
      (d : ℕ) (C : List ℕ) → Contains Cs C → any (λ l. not (eqb (choice l) c) && eqb (choice l) d) C ≡ true
      → (occurs_in d Cs ≡ true) × (d ≡ c → ⊥)
  other_occurs d C stands h =
      let at = any_witness (λ l. not (eqb (choice l) c) && eqb (choice l) d) C h in
      let l = at.0 in
      let both = and_parts (not (eqb (choice l) c)) (eqb (choice l) d) at.2 in
      let is = eqb-true (choice l) d both.1 in (
        subst (λ k. occurs_in k Cs ≡ true) is (occurs_from Cs C l stands at.1),
        λ e. eqb-false (choice l) c (not-true (eqb (choice l) c) both.0) (is ∙ e),
      )

  -- a choice that occurs in the clauses with c resolved occurred before, and is not c
  pub resolved_occurs : (d : ℕ) → occurs_in d (resolved c Cs) ≡ true → (occurs_in d Cs ≡ true) × (d ≡ c → ⊥)
  resolved_occurs d h =
      elim (or_cases (occurs_in d (others c Cs)) (occurs_in d (resolvents c Cs)) (sym (list_any-append (any (λ l. eqb (choice l) d)) (others c Cs) (resolvents c Cs)) ∙ h)) [
        | inl old ↦
            let at = any_witness (any (λ l. eqb (choice l) d)) (others c Cs) old in
            let C = at.0 in
            let kept = kept_stands (λ D. not (any (λ l. eqb (choice l) c) D)) Cs C at.1 in (
              any_from (any (λ l. eqb (choice l) d)) Cs C kept.0 at.2,
              λ e. both_ways (any (λ l. eqb (choice l) c) C) (not-true (any (λ l. eqb (choice l) c) C) kept.1) (subst (λ k. any (λ l. eqb (choice l) k) C ≡ true) e at.2),
            )
        | inr new ↦
            let pairs = sym (any_resolvents (any (λ l. eqb (choice l) d)) c (holding (taking c) Cs) (holding (leaving c) Cs)) ∙ new in
            let at = any_witness (λ C. any (λ D. not (clash c C D) && any (λ l. eqb (choice l) d) (resolvent c C D)) (holding (leaving c) Cs)) (holding (taking c) Cs) pairs in
            let C = at.0 in
            let also = any_witness (λ D. not (clash c C D) && any (λ l. eqb (choice l) d) (resolvent c C D)) (holding (leaving c) Cs) at.2 in
            let D = also.0 in
            let there = (and_parts (not (clash c C D)) (any (λ l. eqb (choice l) d) (resolvent c C D)) also.2).1 in
            elim (or_cases (any (λ l. not (eqb (choice l) c) && eqb (choice l) d) C) (any (λ l. not (eqb (choice l) c) && eqb (choice l) d) D) (sym (any_resolvent (λ l. eqb (choice l) d) c C D) ∙ there)) [
              | inl left ↦ other_occurs d C (kept_stands (has (taking c)) Cs C at.1).0 left
              | inr right ↦ other_occurs d D (kept_stands (has (leaving c)) Cs D also.1).0 right
            ]
      ]

  pub resolved_gone : occurs_in c (resolved c Cs) ≡ false
  resolved_gone = false_from_ne_true (occurs_in c (resolved c Cs)) (λ still. (resolved_occurs c still).1 refl)

-- a clause that speaks of c holds one of its two literals
pub speaks_of :
    (c : ℕ) (C : List ℕ) → any (λ l. eqb (choice l) c) C ≡ true → (has (taking c) C ≡ true) ⊎ (has (leaving c) C ≡ true)
speaks_of c C h =
    let at = any_witness (λ l. eqb (choice l) c) C h in
    let l = at.0 in
    let is = eqb-true (choice l) c at.2 in
    elim (same_or_neg l (taking c) (omega arith)) [
      | inl e ↦ inl ((decides_has (taking c) C).1 (subst (Contains C) e at.1))
      | inr e ↦ let odd : l ≡ leaving c = omega arith in inr ((decides_has (leaving c) C).1 (subst (Contains C) odd at.1))
    ]
