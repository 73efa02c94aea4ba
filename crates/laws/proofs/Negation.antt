-- Literals and their negations.
use Rattle.std.proofs.Common.{◌≡◌, ℕ, ◌-◌, ◌%◌, not, List, get_or, ap, arith}
use Rattle.std.proofs.lemmas.Bool.Decides.{nat_tests}
use Rattle.laws.specs.Literals.{choice, neg, holds, Negation}

pub choice_neg : (l : ℕ) → choice (neg l) ≡ choice l
choice_neg l = omega arith

pub neg_neg : (l : ℕ) → neg (neg l) ≡ l
neg_neg l = omega arith

pub neg_differs : (l : ℕ) → neg l ≡ l → ⊥
neg_differs l e = omega arith

pub holds_neg : (p : List ℕ) (l : ℕ) → holds p (neg l) ≡ not (holds p l)
holds_neg p l =
    let byte = ap (λ i. get_or p i 0) (choice_neg l) in
    let odd : neg l % 2 ≡ 1 - l % 2 = omega arith in
    grind (arith, nat_tests)

pub negation : Negation
negation = (
  λ l. record { twice = neg_neg l; same_choice = choice_neg l; differs = neg_differs l; one_holds = λ p. holds_neg p l },
  λ c. record { neg_taking = omega arith; neg_leaving = omega arith; choice_taking = omega arith; choice_leaving = omega arith },
)
