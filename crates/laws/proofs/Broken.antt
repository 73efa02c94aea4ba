-- The clauses that a plan makes false.
use Rattle.std.proofs.Common.{◌≡◌, ℕ, not, List, [], get_or, Some, subst, arith}
use Rattle.std.proofs.lemmas.List.Sums.{count_by-le-length}
use Rattle.std.proofs.lemmas.Bool.{not-true, not-false}
use Rattle.laws.specs.Lists.{place}
use Rattle.laws.specs.Clauses.{true_in}
use Rattle.laws.specs.Plans.{FirstBroken, Breakage}
use Rattle.laws.proofs.Lists.{First, place_none, place_some, count_none}

module _ (p : List ℕ) (Cs : List (List ℕ)) where
  pub first_broken : (i : ℕ) → place (λ C. not (true_in p C)) Cs ≡ Some i → FirstBroken p Cs i
  first_broken i h =
      let at = place_some (λ C. not (true_in p C)) [] 0 Cs i h in
      let same : at.0 ≡ i = omega (arith, at.1) in
      let first = subst (First (λ C. not (true_in p C)) Cs []) same at.2 in
      record {
        inside = first.inside;
        here = not-true (true_in p (get_or Cs i [])) first.here;
        before = λ j lt. not-false (true_in p (get_or Cs j [])) (first.before j lt);
      }

pub breakage : Breakage
breakage p Cs =
    record {
      at_most = count_by-le-length (λ C. not (true_in p C)) Cs;
      none_counted = count_none (true_in p) Cs;
      none_found = place_none (true_in p) 0 Cs;
      found = first_broken p Cs;
    }
