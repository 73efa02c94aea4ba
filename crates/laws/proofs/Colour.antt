-- Colour, with any proper property: its steps are safe, and at its end none is left; the three properties are proper.
use Rattle.std.proofs.Common.{◌≡◌, ℕ, ◌+◌, ◌%◌, ◌<◌, ◌≤◌, Bool, true, cond, not, ◌||◌, eqb, leb, List, [], ◌∷◌, map, Contains, count_by, sym, refl, ap, ◌∙◌, subst, inl, inr, arith}
use Rattle.std.specs.List.{range_with_len}
use Rattle.std.proofs.lemmas.List.Sums.{sum_by-cons}
use Rattle.std.proofs.lemmas.Bool.{cases_Bool, cases_eq, and_parts, and_from, or_cases, or_left, or_right, both_ways, not-true, not_from_false, eqb-true, eq-eqb, ne_eqb, leb-true, le-leb, false_from_ne_true}
use Rattle.std.proofs.lemmas.Bool.Decides.{nat_tests}
use Rattle.laws.specs.Clauses.{all_true, within}
use Rattle.laws.specs.Colour.{Property, Proper, marked, balanced, coloured, colour_next, colour, scarce, pure, sign, Colours, NoColour, ColourLaw}
use Rattle.laws.specs.Lists.{any, has}
use Rattle.laws.specs.Literals.{choice, neg, top}
use Rattle.laws.specs.Occurring.{occurrences}
use Rattle.laws.specs.Rules.{GoodStep, Safe, ran}
use Rattle.laws.specs.Setting.{meets, assign, assigned}
use Rattle.laws.specs.Tables.{Tab, Lawful, occurs_in}
use Rattle.laws.proofs.Counting.{has_counting, counting_has}
use Rattle.laws.proofs.Kept.{any_witness, any_from, every_at, every_from, kept_stands, stands_kept}
use Rattle.laws.proofs.Lists.{decides_has}
use Rattle.laws.proofs.Negation.{choice_neg, neg_neg}
use Rattle.laws.proofs.Occurring.{occurs_witness, occurs_from, literal_low}
use Rattle.laws.proofs.Reductions.{still_possible}
use Rattle.laws.proofs.Repetition.{repetition}
use Rattle.laws.proofs.Setting.{same_or_neg, consistent, make_all_plan, assign_back, assign_keeps, assigned_lawful, assigned_no_larger, assign_fewer}
use Rattle.laws.proofs.Steps.{step_if, stop_if}

-- a literal stands among negations exactly if its negation stands among the literals
eqb_neg : (m w : ℕ) → eqb (neg m) w ≡ eqb m (neg w)
eqb_neg m w =
    elim (cases_eq m (neg w)) [
      | inl e ↦ eq-eqb (neg m) w (omega arith) ∙ sym (eq-eqb m (neg w) e)
      | inr d ↦ ne_eqb (neg m) w (λ e. d (omega arith)) ∙ sym (ne_eqb m (neg w) d)
    ]

has_negs : (ms : List ℕ) (w : ℕ) → has w (map neg ms) ≡ has (neg w) ms
has_negs [] w = refl
has_negs (m ∷ ms) w = let one = eqb_neg m w in let ih = has_negs ms w in cc

module _ (f : Property) (good : Proper f) (t : Tab) (ok : Lawful t) where
  -- the literals that a step sets
  abbrev setting : List ℕ
  setting = map neg (marked f t)

  -- they are exactly the negations of the table's literals with the property; none is above the largest one, and none
  -- is the negation of another
  set_says : (w : ℕ) → has w setting ≡ true → (neg w ≤ top t.last) × (f t.clauses (neg w) ≡ true)
  set_says w h =
      let kept = (decides_has (neg w) (marked f t)).0 (sym (has_negs (marked f t) w) ∙ h) in
      let stands = kept_stands (f t.clauses) (range_with_len 0 (top t.last + 1)) (neg w) kept in
      let low = counting_has (top t.last + 1) (neg w) stands.0 in
      (omega (arith, low), stands.1)

  set_from : (w : ℕ) → neg w ≤ top t.last → f t.clauses (neg w) ≡ true → has w setting ≡ true
  set_from w low h =
      has_negs (marked f t) w
      ∙ (decides_has (neg w) (marked f t)).1 (stands_kept (f t.clauses) (range_with_len 0 (top t.last + 1)) (neg w) (has_counting (top t.last + 1) (neg w) (omega arith)) h)

  setting_within : within t.last setting ≡ true
  setting_within =
      every_from (λ l. leb l (top t.last)) setting
      (λ w stands. le-leb w (top t.last) (omega (arith, (set_says w ((decides_has w setting).1 stands)).0)))

  setting_consistent : consistent setting
  setting_consistent w h =
      false_from_ne_true (has (neg w) setting)
      (λ among. both_ways (f t.clauses (neg (neg w))) (good.one_side t.clauses (neg w) (set_says w h).1) (set_says (neg w) among).1)

  -- a clause with the negation of a literal that has the property contains one of those that are set
  meets_neg : (C : List ℕ) (m : ℕ) → Contains t.clauses C → Contains C m → f t.clauses (neg m) ≡ true → meets setting C ≡ true
  meets_neg C m stands in' h =
      any_from (λ l. has l setting) C m in' (set_from m (omega (arith, literal_low t C m ok stands in')) h)

  module _ (step_is : coloured f t ≡ true) where
    -- some literal has the property
    some_literal : any (f t.clauses) (range_with_len 0 (top t.last + 1)) ≡ true
    some_literal = (and_parts (any (f t.clauses) (range_with_len 0 (top t.last + 1))) (balanced f t.clauses) step_is).0

    -- in balanced clauses, so does a clause with a literal that has the property
    meets_own : (C : List ℕ) (l : ℕ) → Contains t.clauses C → Contains C l → f t.clauses l ≡ true → meets setting C ≡ true
    meets_own C l stands in' h =
        let balance = (and_parts (any (f t.clauses) (range_with_len 0 (top t.last + 1))) (balanced f t.clauses) step_is).1 in
        let here = every_at (λ D. not (any (f t.clauses) D) || any (λ m. f t.clauses (neg m)) D) t.clauses C balance stands in
        let Has-one = any_from (f t.clauses) C l in' h in
        elim (or_cases (not (any (f t.clauses) C)) (any (λ m. f t.clauses (neg m)) C) here) [
          | inl none ↦ absurd (both_ways (any (f t.clauses) C) (not-true (any (f t.clauses) C) none) Has-one)
          | inr some ↦ let at = any_witness (λ m. f t.clauses (neg m)) C some in meets_neg C at.0 stands at.1 at.2
        ]

    -- some clause contains one of the literals that are set
    some_meets : any (meets setting) t.clauses ≡ true
    some_meets =
        let at = any_witness (f t.clauses) (range_with_len 0 (top t.last + 1)) some_literal in
        let l = at.0 in
        let there = occurs_witness (choice l) t.clauses (good.occurs t.clauses l at.2) in
        let C = there.0 in
        let m = there.1 in
        any_from (meets setting) t.clauses C there.2
        (elim (same_or_neg m l there.4) [
          | inl e ↦ meets_own C m there.2 there.3 (subst (λ k. f t.clauses k ≡ true) (sym e) at.2)
          | inr e ↦ meets_neg C m there.2 there.3 (subst (λ k. f t.clauses k ≡ true) (sym (ap neg e ∙ neg_neg l)) at.2)
        ])

    -- a clause that contains none of them loses no literal, so it stays true
    still_true : (q : List ℕ) → all_true q t.clauses ≡ true → all_true q (assign setting t.clauses) ≡ true
    still_true q h =
        assign_keeps setting t.clauses q
        (λ C l stands apart in' _. false_from_ne_true (has (neg l) setting)
        (λ among.
        let own = subst (λ k. f t.clauses k ≡ true) (neg_neg l) (set_says (neg l) among).1 in
        both_ways (meets setting C) apart (meets_own C l stands in' own)))
        h

    good_step : GoodStep (colour f) t setting (assigned setting t)
    good_step =
        record {
          table = assigned_lawful setting t ok;
          no_larger = assigned_no_larger setting t;
          plans = make_all_plan t.last setting;
          back = λ p is h. assign_back t.last setting t.clauses p setting_within setting_consistent is.long h;
          possible = still_possible t (assign setting t.clauses) still_true;
          falls = assign_fewer setting t.clauses some_meets;
        }

safe : (f : Property) → Proper f → Safe (colour f)
unfolding colour_next
safe f good notes t ok n u e =
    step_if (GoodStep (colour f) t) (coloured f t) (map neg (marked f t)) (assigned (map neg (marked f t)) t) (good_step f good t ok) n u e

-- a step in the subject's words is a step
coloured_from : (f : Property) (t : Tab) → Colours f t → coloured f t ≡ true
coloured_from f t c =
    and_from (any (f t.clauses) (range_with_len 0 (top t.last + 1))) (balanced f t.clauses)
    (any_from (f t.clauses) (range_with_len 0 (top t.last + 1)) c.literal (has_counting (top t.last + 1) c.literal (omega (arith, c.inside))) c.has_it)
    (every_from (λ C. not (any (f t.clauses) C) || any (λ l. f t.clauses (neg l)) C) t.clauses
    (λ C stands.
    elim (cases_Bool (any (f t.clauses) C)) [
      | inr none ↦ or_left (not (any (f t.clauses) C)) (any (λ l. f t.clauses (neg l)) C) (not_from_false (any (f t.clauses) C) none)
      | inl some ↦
          let at = any_witness (f t.clauses) C some in
          let m = c.balances C at.0 stands at.1 at.2 in
          or_right (not (any (f t.clauses) C)) (any (λ l. f t.clauses (neg l)) C) (any_from (λ l. f t.clauses (neg l)) C m.0 m.1 m.2)
    ]))

ended : (f : Property) → Proper f → (t : Tab) → Lawful t → NoColour f (ran (colour f) t).table
unfolding colour_next
ended f good t ok c =
    let end = (ran (colour f) t).table in
    let none = stop_if (coloured f end) (map neg (marked f end)) (assigned (map neg (marked f end)) end) (repetition (colour f) (safe f good) t ok).no_step_left in
    both_ways (coloured f end) none (coloured_from f end c)

-- a test that is counted holds of some element
any_from_count : {X : Type 0} (g : X → Bool) (xs : List X) → 0 < count_by g xs → any g xs ≡ true
any_from_count g [] lt = absurd (omega arith)
any_from_count g (x ∷ xs) lt =
    elim (cases_Bool (g x)) [
      | inl passes ↦ or_left (g x) (any g xs) passes
      | inr fails ↦
          let nil : cond {A = ℕ} (g x) 1 0 ≡ 0 = grind (arith, nat_tests) in
          or_right (g x) (any g xs) (any_from_count g xs (omega (arith, sum_by-cons (λ y. cond {A = ℕ} (g y) 1 0) x xs)))
    ]

-- a literal that stands in a clause has a choice that occurs
occurs_counted : (Cs : List (List ℕ)) (l : ℕ) → 0 < occurrences l Cs → occurs_in (choice l) Cs ≡ true
occurs_counted Cs l lt =
    let at = any_witness (has l) Cs (any_from_count (has l) Cs lt) in
    occurs_from Cs at.0 l at.1 ((decides_has l at.0).0 at.2)

scarce_proper : Proper scarce
scarce_proper =
    record {
      one_side = λ Cs l h. grind (arith, nat_tests);
      occurs = λ Cs l h. occurs_counted Cs l (omega (arith, eqb-true (occurrences l Cs) 2 (and_parts (eqb (occurrences l Cs) 2) (leb 3 (occurrences (neg l) Cs)) h).0));
    }

pure_proper : Proper pure
pure_proper =
    record {
      one_side = λ Cs l h. grind (arith, nat_tests);
      occurs = λ Cs l h. subst (λ c. occurs_in c Cs ≡ true) (choice_neg l) (occurs_counted Cs (neg l) (omega (arith, leb-true 1 (occurrences (neg l) Cs) (and_parts (eqb (occurrences l Cs) 0) (leb 1 (occurrences (neg l) Cs)) h).1)));
    }

sign_proper : Proper sign
sign_proper =
    record {
      one_side = λ Cs l h. let odd : neg l % 2 ≡ 1 = omega (arith, eqb-true (l % 2) 0 (and_parts (eqb (l % 2) 0) (occurs_in (choice l) Cs) h).0) in grind (arith, nat_tests);
      occurs = λ Cs l h. (and_parts (eqb (l % 2) 0) (occurs_in (choice l) Cs) h).1;
    }

pub colour_law : ColourLaw
colour_law =
    record {
      safe = safe;
      repeats = λ f good. repetition (colour f) (safe f good);
      ended = ended;
      scarce_proper = scarce_proper;
      pure_proper = pure_proper;
      sign_proper = sign_proper;
    }
