-- What a plan makes true, in the subject's words.
use Rattle.std.proofs.Common.{◌≡◌, ℕ, ◌%◌, true, eqb, List, get_or, Decides, Contains, sym, refl, ap, subst, inl, inr, arith}
use Rattle.std.proofs.lemmas.List.Elements.{Contains-get_or, at_from_Contains}
use Rattle.std.proofs.lemmas.Bool.{cases_Bool, eqb-true, eqb-false}
use Rattle.std.proofs.lemmas.Bool.Decides.{nat_tests, Decides-by_and, Decides-by_or, Decides-like}
use Rattle.laws.specs.Literals.{choice, holds, Agrees}
use Rattle.laws.specs.Clauses.{true_in, all_true, Truth}

module _ (p : List ℕ) where
  agrees_from_holds : (l : ℕ) → holds p l ≡ true → Agrees p l
  agrees_from_holds l h =
      elim (cases_Bool (eqb (l % 2) 0)) [
        | inl t ↦
            let even = eqb-true (l % 2) 0 t in
            inl (choice l, omega arith, grind (arith, nat_tests))
        | inr f ↦
            let odd = eqb-false (l % 2) 0 f in
            inr (choice l, omega arith, grind (arith, nat_tests))
      ]

  holds_from_agrees : (l : ℕ) → Agrees p l → holds p l ≡ true
  holds_from_agrees l (inl (c, is, got)) =
      let half : choice l ≡ c = omega arith in
      let even : l % 2 ≡ 0 = omega arith in
      let byte = ap (λ i. get_or p i 0) half in
      grind (arith, nat_tests)
  holds_from_agrees l (inr (c, is, got)) =
      let half : choice l ≡ c = omega arith in
      let odd : l % 2 ≡ 1 = omega arith in
      let byte = ap (λ i. get_or p i 0) half in
      grind (arith, nat_tests)

  -- a literal holds exactly if it agrees with the plan
  pub decides_holds : (l : ℕ) → Decides (holds p l) (Agrees p l)
  decides_holds l = (agrees_from_holds l, holds_from_agrees l)

  -- a clause is true exactly if one of its literals agrees with the plan
  pub decides_true : (C : List ℕ) → Decides (true_in p C) ((l : ℕ) × Contains C l × Agrees p l)
  decides_true C =
      Decides-like (true_in p C)
      (λ k. (get_or C k.0 0, Contains-get_or C k.0 0 k.1, k.2 0))
      (λ l.
      let at = at_from_Contains C l.0 l.1 in
      (at.0, at.1, λ d. subst (Agrees p) (sym (at.2 d)) l.2))
      (Decides-by_or (holds p) (Agrees p) (true_in p) decides_holds refl (λ _ _. refl) C)

pub truth : Truth
truth p Cs = Decides-by_and (true_in p) (λ C. (l : ℕ) × Contains C l × Agrees p l) (all_true p) (decides_true p) refl (λ _ _. refl) Cs
