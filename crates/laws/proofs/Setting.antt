-- Setting literals: what it does to plans, to truth and to clauses.
use Rattle.std.proofs.Common.{◌≡◌, ℕ, ◌+◌, ◌-◌, ◌%◌, ◌<◌, ◌≤◌, true, false, cond, not, eqb, leb, ◌⊎◌, List, [], ◌∷◌, length, Contains, sym, refl, ap, ◌∙◌, subst, inl, inr, arith}
use Rattle.std.proofs.lemmas.List.Elements.{All-set}
use Rattle.std.proofs.lemmas.List.{length-set, get_or-set_same, get_or-set_other}
use Rattle.std.proofs.lemmas.Bool.{and_parts, and_from, or_parts, or_cases, cases_Bool, cases_eq, both_ways, not-true, not_from_true, not_from_false, eqb-true, eqb-false, leb-true, le-leb, cond_both, false_from_ne_true}
use Rattle.std.proofs.lemmas.Bool.Decides.{nat_tests}
use Rattle.laws.specs.Clauses.{all_true, true_in, within, lawful, literals}
use Rattle.laws.specs.Lists.{any, every, has}
use Rattle.laws.specs.Literals.{choice, neg, holds, top}
use Rattle.laws.specs.Plans.{PlanOf, Possible}
use Rattle.laws.specs.Reductions.{NoLarger}
use Rattle.laws.specs.Setting.{make, make_all, meets, strip, assign, assigned, with_set}
use Rattle.laws.specs.Tables.{Tab, Lawful, occurs_in}
use Rattle.laws.proofs.Kept.{has_none, has_here, has_later, has_cases, any_witness, any_from, none_from, every_at, every_from, kept_stands, stands_kept, lawful_kept_by, length_kept_by_le}
use Rattle.laws.proofs.Lists.{decides_has}
use Rattle.laws.proofs.Negation.{neg_neg, neg_differs, holds_neg}
use Rattle.laws.proofs.Options.{no}
use Rattle.laws.proofs.Reductions.{no_larger_lawful}

-- literals of one choice are equal or each other's negation
pub same_or_neg : (l w : ℕ) → choice l ≡ choice w → (l ≡ w) ⊎ (l ≡ neg w)
same_or_neg l w e =
    elim (cases_eq l w) [
      | inl same ↦ inl same
      | inr apart ↦ inr (omega arith)
    ]

-- a literal within the table speaks of one of its choices
pub choice_below : (n l : ℕ) → l ≤ top n → choice l < n + 1
choice_below n l h = omega arith

-- making a literal true keeps plans plans
pub length_make : (w : ℕ) (p : List ℕ) → length (make w p) ≡ length p
length_make w p = length-set p (choice w) (1 - w % 2)

pub make_plan : (n w : ℕ) (p : List ℕ) → PlanOf n p → PlanOf n (make w p)
make_plan n w p is =
    record {
      long = length_make w p ∙ is.long;
      bytes = All-set (λ b. b ≤ 1) p (choice w) (1 - w % 2) (omega arith) is.bytes;
    }

-- it makes that literal true, and no literal false but its negation
pub holds_made : (w : ℕ) (p : List ℕ) → choice w < length p → holds (make w p) w ≡ true
holds_made w p lt =
    let byte = get_or-set_same p (choice w) (1 - w % 2) 0 lt in
    let odd : w % 2 ≤ 1 = omega arith in
    grind (arith, nat_tests)

pub holds_other : (w l : ℕ) (p : List ℕ) → (choice l ≡ choice w → ⊥) → holds (make w p) l ≡ holds p l
holds_other w l p apart =
    ap (λ b. cond (eqb (l % 2) 0) (not (eqb b 0)) (eqb b 0)) (get_or-set_other p (choice w) (choice l) (1 - w % 2) 0 apart)

pub holds_stays : (w l : ℕ) (p : List ℕ) → (l ≡ neg w → ⊥) → choice w < length p → holds p l ≡ true → holds (make w p) l ≡ true
holds_stays w l p differs lt h =
    elim (cases_eq (choice l) (choice w)) [
      | inl e ↦
          elim (same_or_neg l w e) [
            | inl same ↦ ap (holds (make w p)) same ∙ holds_made w p lt
            | inr opposite ↦ absurd (differs opposite)
          ]
      | inr apart ↦ holds_other w l p apart ∙ h
    ]

-- literals that do not contradict each other: no negation of one is another
abbrev pub consistent : List ℕ → Type 0
consistent ws = (w : ℕ) → has w ws ≡ true → has (neg w) ws ≡ false

-- one literal does not contradict itself
pub consistent_one : (w : ℕ) → consistent (w ∷ [])
consistent_one w v h = let differs = neg_differs v in grind (arith, nat_tests)

pub make_all_plan : (n : ℕ) (ws p : List ℕ) → PlanOf n p → PlanOf n (make_all ws p)
make_all_plan n [] p is = is
make_all_plan n (w ∷ ws) p is = make_all_plan n ws (make w p) (make_plan n w p is)

-- making literals true makes no literal false whose negation is not among them, and makes each of them true
pub make_all_stays :
    (n : ℕ) (ws p : List ℕ) (l : ℕ) → within n ws ≡ true → length p ≡ n + 1 → has (neg l) ws ≡ false → holds p l ≡ true
    → holds (make_all ws p) l ≡ true
make_all_stays n [] p l in' long new h = h
make_all_stays n (w ∷ ws) p l in' long new h =
    let low = and_parts (leb w (top n)) (within n ws) in' in
    let apart = or_parts (eqb w (neg l)) (has (neg l) ws) new in
    let differs = eqb-false w (neg l) apart.0 in
    let lt : choice w < length p = omega (arith, leb-true w (top n) low.0) in
    make_all_stays n ws (make w p) l low.1 (length_make w p ∙ long) apart.1
    (holds_stays w l p (λ e. differs (omega arith)) lt h)

-- one of them whose negation is not among them is made true
made :
    (n : ℕ) (ws p : List ℕ) (l : ℕ) → within n ws ≡ true → length p ≡ n + 1 → has (neg l) ws ≡ false → has l ws ≡ true
    → holds (make_all ws p) l ≡ true
made n [] p l in' long new h = no (cc)
made n (w ∷ ws) p l in' long new h =
    let low = and_parts (leb w (top n)) (within n ws) in' in
    let apart = or_parts (eqb w (neg l)) (has (neg l) ws) new in
    let lt : choice w < length p = omega (arith, leb-true w (top n) low.0) in
    elim (or_cases (eqb w l) (has l ws) h) [
      | inl here ↦
          make_all_stays n ws (make w p) l low.1 (length_make w p ∙ long) apart.1
          (ap (holds (make w p)) (sym (eqb-true w l here)) ∙ holds_made w p lt)
      | inr later ↦ made n ws (make w p) l low.1 (length_make w p ∙ long) apart.1 later
    ]

pub make_all_made :
    (n : ℕ) (ws p : List ℕ) (l : ℕ) → within n ws ≡ true → length p ≡ n + 1 → consistent ws → has l ws ≡ true
    → holds (make_all ws p) l ≡ true
make_all_made n ws p l in' long ok stands = made n ws p l in' long (ok l stands) stands

-- a clause that stands where literals are set is one that contained none of them, without their negations
pub assign_stands :
    (ws : List ℕ) (Cs : List (List ℕ)) (D : List ℕ) → Contains (assign ws Cs) D
    → (C : List ℕ) × Contains Cs C × (meets ws C ≡ false) × (D ≡ strip ws C)
assign_stands ws [] D stands = absurd (has_none D stands)
assign_stands ws (C ∷ Cs) D stands =
    let later : Contains (assign ws Cs) D → (B : List ℕ) × Contains (C ∷ Cs) B × (meets ws B ≡ false) × (D ≡ strip ws B) =
    λ more. let ih = assign_stands ws Cs D more in (ih.0, has_later C Cs ih.0 ih.1, ih.2, ih.3) in
    cond_both (meets ws C) (assign ws Cs) (strip ws C ∷ assign ws Cs)
    (λ Ds. Contains Ds D → (B : List ℕ) × Contains (C ∷ Cs) B × (meets ws B ≡ false) × (D ≡ strip ws B))
    (λ gone. later)
    (λ stays in'. elim (has_cases (strip ws C) (assign ws Cs) D in') [
      | inl same ↦ (C, has_here C Cs, stays, sym same)
      | inr more ↦ later more
    ])
    stands

pub stands_assign :
    (ws : List ℕ) (Cs : List (List ℕ)) (C : List ℕ) → Contains Cs C → meets ws C ≡ false → Contains (assign ws Cs) (strip ws C)
stands_assign ws [] C stands apart = absurd (has_none C stands)
stands_assign ws (B ∷ Cs) C stands apart =
    let which = has_cases B Cs C stands in
    cond_both (meets ws B) (assign ws Cs) (strip ws B ∷ assign ws Cs) (λ Ds. Contains Ds (strip ws C))
    (λ gone. elim which [
      | inl same ↦ absurd (both_ways (meets ws C) apart (ap (meets ws) (sym same) ∙ gone))
      | inr later ↦ stands_assign ws Cs C later apart
    ])
    (λ stays. elim which [
      | inl same ↦
          subst (λ A. Contains (strip ws B ∷ assign ws Cs) (strip ws A)) same (has_here (strip ws B) (assign ws Cs))
      | inr later ↦ has_later (strip ws B) (assign ws Cs) (strip ws C) (stands_assign ws Cs C later apart)
    ])

-- what stands in a clause without the negations stood in it, and is no negation
pub strip_stands : (ws C : List ℕ) (l : ℕ) → Contains (strip ws C) l → Contains C l × (has (neg l) ws ≡ false)
strip_stands ws C l stands =
    let both = kept_stands (λ m. not (has (neg m) ws)) C l stands in
    (both.0, not-true (has (neg l) ws) both.1)

pub stands_strip : (ws C : List ℕ) (l : ℕ) → Contains C l → has (neg l) ws ≡ false → Contains (strip ws C) l
stands_strip ws C l stands apart =
    stands_kept (λ m. not (has (neg m) ws)) C l stands (not_from_false (has (neg l) ws) apart)

-- literals that a plan makes true include no negation of one that it makes true
pub neg_apart : (q ws : List ℕ) (l : ℕ) → every (holds q) ws ≡ true → holds q l ≡ true → has (neg l) ws ≡ false
neg_apart q ws l true' h =
    false_from_ne_true (has (neg l) ws)
    (λ stands.
    let made' = every_at (holds q) ws (neg l) true' ((decides_has (neg l) ws).0 stands) in
    both_ways (holds q (neg l)) (holds_neg q l ∙ not_from_true (holds q l) h) made')

-- a plan of the clauses with literals set makes the clauses true once the literals are made true
pub assign_back :
    (n : ℕ) (ws : List ℕ) (Cs : List (List ℕ)) (p : List ℕ) → within n ws ≡ true → consistent ws → length p ≡ n + 1
    → all_true p (assign ws Cs) ≡ true → all_true (make_all ws p) Cs ≡ true
assign_back n ws Cs p in' ok long h =
    every_from (true_in (make_all ws p)) Cs
    (λ C stands. elim (cases_Bool (meets ws C)) [
      | inl t ↦
          let l = any_witness (λ m. has m ws) C t in
          any_from (holds (make_all ws p)) C l.0 l.1 (make_all_made n ws p l.0 in' long ok l.2)
      | inr f ↦
          let l = any_witness (holds p) (strip ws C) (every_at (true_in p) (assign ws Cs) (strip ws C) h (stands_assign ws Cs C stands f)) in
          let m = strip_stands ws C l.0 l.1 in
          any_from (holds (make_all ws p)) C l.0 m.0 (make_all_stays n ws p l.0 in' long m.1 l.2)
    ])

-- a plan that makes the clauses true makes them true with the literals set, if no literal that it makes true is deleted
pub assign_keeps :
    (ws : List ℕ) (Cs : List (List ℕ)) (q : List ℕ)
    → ((C : List ℕ) (l : ℕ) → Contains Cs C → meets ws C ≡ false → Contains C l → holds q l ≡ true → has (neg l) ws ≡ false)
    → all_true q Cs ≡ true → all_true q (assign ws Cs) ≡ true
assign_keeps ws Cs q stays h =
    every_from (true_in q) (assign ws Cs)
    (λ D stands.
    let C = assign_stands ws Cs D stands in
    let l = any_witness (holds q) C.0 (every_at (true_in q) Cs C.0 h C.1) in
    let in' = stands_strip ws C.0 l.0 l.1 (stays C.0 l.0 C.1 C.2 l.1 l.2) in
    ap (true_in q) C.3 ∙ any_from (holds q) (strip ws C.0) l.0 in' l.2)

-- so does a plan that makes the literals true
pub assign_true :
    (ws : List ℕ) (Cs : List (List ℕ)) (q : List ℕ) → every (holds q) ws ≡ true → all_true q Cs ≡ true
    → all_true q (assign ws Cs) ≡ true
assign_true ws Cs q made' h = assign_keeps ws Cs q (λ C l stands apart in' t. neg_apart q ws l made' t) h

-- with one literal set: a plan for that makes the clauses true once the literal is made true, and a plan that makes the
-- clauses and the literal true is one for that
pub set_back :
    (t : Tab) (w : ℕ) (p : List ℕ) → w ≤ top t.last → PlanOf t.last p → all_true p (assign (w ∷ []) t.clauses) ≡ true
    → PlanOf t.last (make w p) × (all_true (make w p) t.clauses ≡ true)
set_back t w p low is h = (
  make_plan t.last w p is,
  assign_back t.last (w ∷ []) t.clauses p (and_from (leb w (top t.last)) true (le-leb w (top t.last) low) refl) (consistent_one w) is.long h,
)

pub set_possible : (t : Tab) (w : ℕ) (q : Possible t) → holds q.plan w ≡ true → Possible (with_set w t)
set_possible t w q h =
    record {
      plan = q.plan;
      is_plan = q.is_plan;
      keeps = assign_true (w ∷ []) t.clauses q.plan (and_from (holds q.plan w) true h refl) q.keeps;
    }

-- setting literals leaves a lawful table that is no larger, and smaller if a clause contains one of them
pub length_assign_le : (ws : List ℕ) (Cs : List (List ℕ)) → length (assign ws Cs) ≤ length Cs
length_assign_le ws [] = omega arith
length_assign_le ws (C ∷ Cs) = let ih = length_assign_le ws Cs in grind (arith, nat_tests)

pub literals_assign_le : (ws : List ℕ) (Cs : List (List ℕ)) → literals (assign ws Cs) ≤ literals Cs
literals_assign_le ws [] = omega arith
literals_assign_le ws (C ∷ Cs) =
    let ih = literals_assign_le ws Cs in
    let fewer : length (strip ws C) ≤ length C = length_kept_by_le (λ l. not (has (neg l) ws)) C in
    cond_both (meets ws C) (assign ws Cs) (strip ws C ∷ assign ws Cs) (λ Ds. literals Ds ≤ literals (C ∷ Cs))
    (λ gone. omega arith) (λ stays. omega arith)

pub assigned_no_larger : (ws : List ℕ) (t : Tab) → NoLarger t (assigned ws t)
assigned_no_larger ws t =
    record {
      same_last = refl;
      no_more_clauses = length_assign_le ws t.clauses;
      no_more_literals = literals_assign_le ws t.clauses;
    }

pub every_assign :
    (n : ℕ) (ws : List ℕ) (Cs : List (List ℕ)) → every (lawful n) Cs ≡ true → every (lawful n) (assign ws Cs) ≡ true
every_assign n ws Cs h =
    every_from (lawful n) (assign ws Cs)
    (λ D stands.
    let C = assign_stands ws Cs D stands in
    ap (lawful n) C.3 ∙ lawful_kept_by n (λ l. not (has (neg l) ws)) C.0 (every_at (lawful n) Cs C.0 h C.1))

pub assigned_lawful : (ws : List ℕ) (t : Tab) → Lawful t → Lawful (assigned ws t)
assigned_lawful ws t ok =
    no_larger_lawful t (assigned ws t) ok (assigned_no_larger ws t) (every_assign t.last ws t.clauses ok.each)

pub assign_fewer : (ws : List ℕ) (Cs : List (List ℕ)) → any (meets ws) Cs ≡ true → length (assign ws Cs) < length Cs
assign_fewer ws [] h = no (cc)
assign_fewer ws (C ∷ Cs) h =
    let fewer = length_assign_le ws Cs in
    cond_both (meets ws C) (assign ws Cs) (strip ws C ∷ assign ws Cs) (λ Ds. length Ds < length (C ∷ Cs))
    (λ gone. omega arith)
    (λ stays. let ih = assign_fewer ws Cs (grind (arith, nat_tests)) in omega arith)

-- no choice occurs that did not, and none of the literals' choices does
pub assign_occurs : (ws : List ℕ) (Cs : List (List ℕ)) (c : ℕ) → occurs_in c (assign ws Cs) ≡ true → occurs_in c Cs ≡ true
assign_occurs ws Cs c h =
    let D = any_witness (any (λ l. eqb (choice l) c)) (assign ws Cs) h in
    let C = assign_stands ws Cs D.0 D.1 in
    let l = any_witness (λ l. eqb (choice l) c) D.0 D.2 in
    let m = strip_stands ws C.0 l.0 (subst (λ E. Contains E l.0) C.3 l.1) in
    any_from (any (λ l. eqb (choice l) c)) Cs C.0 C.1 (any_from (λ l. eqb (choice l) c) C.0 l.0 m.0 l.2)

-- a literal of a set literal's choice is gone with its clause or from it
strip_gone : (ws C : List ℕ) (w l : ℕ) → has w ws ≡ true → meets ws C ≡ false → Contains (strip ws C) l → choice l ≡ choice w → ⊥
strip_gone ws C w l stands apart in' same =
    let m = strip_stands ws C l in' in
    elim (same_or_neg l w same) [
      | inl is ↦ both_ways (meets ws C) apart (any_from (λ k. has k ws) C l m.0 (ap (λ k. has k ws) is ∙ stands))
      | inr is ↦ both_ways (has (neg l) ws) m.1 (ap (λ k. has k ws) (ap neg is ∙ neg_neg w) ∙ stands)
    ]

pub assign_gone : (ws : List ℕ) (Cs : List (List ℕ)) (w : ℕ) → has w ws ≡ true → occurs_in (choice w) (assign ws Cs) ≡ false
assign_gone ws Cs w stands =
    none_from (any (λ l. eqb (choice l) (choice w))) (assign ws Cs)
    (λ D in' speaks.
    let C = assign_stands ws Cs D in' in
    let l = any_witness (λ l. eqb (choice l) (choice w)) D speaks in
    strip_gone ws C.0 w l.0 stands C.2 (subst (λ E. Contains E l.0) C.3 l.1) (eqb-true (choice l.0) (choice w) l.2))
