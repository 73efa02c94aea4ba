-- What a union holds, and how many literals a resolvent has.
use Rattle.std.proofs.Common.{◌≡◌, ℕ, ◌+◌, true, false, cond, not, ◌&&◌, ◌||◌, eqb, ltb, List, [], ◌∷◌, ◌++◌, length, count_by, sym, refl, ap, ◌∙◌, inl, inr, arith}
use Rattle.std.proofs.lemmas.List.Sums.{sum_by-cons}
use Rattle.std.proofs.lemmas.Bool.{and_parts, and_left, or_from, both_ways, cases_Bool, ne_eqb, ltb-true, cond-true, cond-false, cond_both, not-false, not_from_true, not_from_false}
use Rattle.laws.specs.Clauses.{ascends, insert}
use Rattle.laws.specs.Lists.{every, has}
use Rattle.laws.specs.Literals.{choice}
use Rattle.laws.specs.Resolving.{apart, join, union, resolvent}
use Rattle.std.proofs.Math.Bool.{or-false}
use Rattle.laws.proofs.Resolving.{any_union}
use Rattle.laws.proofs.Sorted.{length_insert}

-- what is added last stands first
pub union_push : (y : ℕ) (C xs : List ℕ) → union C (xs ++ y ∷ []) ≡ union (join y C) xs
union_push y C [] = refl
union_push y C (x ∷ xs) = ap (join x) (union_push y C xs)

-- a literal of another choice than c stands among those apart from c exactly if it stands at all
has_apart : (c l : ℕ) (C : List ℕ) → eqb (choice l) c ≡ false → has l (apart c C) ≡ has l C
has_apart c l [] o = refl
has_apart c l (x ∷ xs) o =
    let ih = has_apart c l xs o in
    cond_both (not (eqb (choice x) c)) (x ∷ apart c xs) (apart c xs) (λ D. has l D ≡ (eqb x l || has l xs))
    (λ p. ap (λ b. eqb x l || b) ih)
    (λ p. ih ∙ sym (ap (λ b. b || has l xs) (ne_eqb x l (λ e. both_ways (eqb (choice l) c) o (ap (λ z. eqb (choice z) c) (sym e) ∙ not-false (eqb (choice x) c) p)))))

-- a literal whose choice is below all others does not stand among them
not_behind : (y : ℕ) (ys : List ℕ) → every (λ z. ltb (choice y) (choice z)) ys ≡ true → has y ys ≡ false
not_behind y [] h = refl
not_behind y (z ∷ zs) h =
    let both = and_parts (ltb (choice y) (choice z)) (every (λ x. ltb (choice y) (choice x)) zs) h in
    or_from (eqb z y) (has y zs) (ne_eqb z y (λ e. omega (arith, ltb-true (choice y) (choice z) both.0))) (not_behind y zs both.1)

-- a resolvent has the literals of the first clause apart from c, and those of the second that are not in the first
pub length_resolvent : (c : ℕ) (C D : List ℕ) → ascends D ≡ true
    → length (resolvent c C D) ≡ length (apart c C) + count_by (λ l. not (eqb (choice l) c) && not (has l C)) D
length_resolvent c C [] a = omega arith
length_resolvent c C (y ∷ ys) a =
    let up = and_parts (every (λ z. ltb (choice y) (choice z)) ys) (ascends ys) a in
    let ih = length_resolvent c C ys up.1 in
    let one = sum_by-cons (λ l. cond {A = ℕ} (not (eqb (choice l) c) && not (has l C)) 1 0) y ys in
    let U = resolvent c C ys in
    elim (cases_Bool (eqb (choice y) c)) [
      | inl t ↦
          let same = cond-false (not (eqb (choice y) c)) (y ∷ apart c ys) (apart c ys) (not_from_true (eqb (choice y) c) t) in
          let nil = cond-false {A = ℕ} (not (eqb (choice y) c) && not (has y C)) 1 0 (and_left (not (eqb (choice y) c)) (not (has y C)) (not_from_true (eqb (choice y) c) t)) in
          omega (arith, ap (λ D. length (union (apart c C) D)) same)
      | inr n ↦
          let other = not_from_false (eqb (choice y) c) n in
          let same = cond-true (not (eqb (choice y) c)) (y ∷ apart c ys) (apart c ys) other in
          let here : has y U ≡ has y C =
          any_union (λ z. eqb z y) (apart c C) (apart c ys) ∙ ap (λ b. b || has y (apart c ys)) (has_apart c y C n)
          ∙ ap (λ b. has y C || b) (has_apart c y ys n ∙ not_behind y ys up.0) ∙ or-false (has y C) in
          let more = ap (λ b. cond {A = ℕ} (b && not (has y C)) 1 0) other in
          let grown : length (join y U) ≡ length U + cond {A = ℕ} (not (has y C)) 1 0 =
          cond_both (has y U) U (insert y U) (λ D. length D ≡ length U + cond {A = ℕ} (not (has y C)) 1 0)
          (λ t. let k = cond-false {A = ℕ} (not (has y C)) 1 0 (not_from_true (has y C) (sym here ∙ t)) in omega arith)
          (λ f. let k = cond-true {A = ℕ} (not (has y C)) 1 0 (not_from_false (has y C) (sym here ∙ f)) in omega (arith, length_insert y U)) in
          omega (arith, ap (λ D. length (union (apart c C) D)) same)
    ]
