-- Eliminate: its steps are safe, and at its end no choice qualifies.
use Rattle.std.proofs.Common.{◌≡◌, ℕ, ◌+◌, ◌≤◌, true, false, not, ◌&&◌, ◌||◌, eqb, leb, List, length, Contains, sym, refl, ap, ◌∙◌, subst, inl, inr, arith}
use Rattle.std.specs.List.{range_with_len}
use Rattle.std.proofs.lemmas.List.Folds.{list_all-append}
use Rattle.std.proofs.lemmas.Bool.{cases_Bool, and_parts, and_from, or_cases, or_left, or_right, both_ways, not-true, not-false, not_from_true, not_from_false, eqb-false, eq-eqb, ne_eqb, leb-true, le-leb, cond_both}
use Rattle.laws.specs.Clauses.{all_true, true_in, lawful, literals}
use Rattle.laws.specs.Eliminate.{Elimination, noted_clauses, noted_literals, no_growth, note_fits, qualifies, eliminate_next, otherwise_true, eliminate_undo, eliminate, Qualifies, NoQualified, EliminateLaw}
use Rattle.laws.specs.Lists.{any, every, first, has}
use Rattle.laws.specs.Literals.{choice, neg, holds, taking, leaving}
use Rattle.laws.specs.Plans.{PlanOf}
use Rattle.laws.specs.Reductions.{NoLarger}
use Rattle.laws.specs.Resolving.{clash, resolvent, holding, others, resolvents, resolved}
use Rattle.laws.specs.Rules.{GoodStep, Safe, ran}
use Rattle.laws.specs.Setting.{make}
use Rattle.laws.specs.Tables.{Tab, Lawful, occurs_in}
use Rattle.laws.proofs.Counting.{has_counting, counting_has}
use Rattle.laws.proofs.Kept.{any_witness, any_from, any_none, every_at, every_from, kept_stands, stands_kept, every_kept_by}
use Rattle.laws.proofs.Lawful.{one_of_choice}
use Rattle.laws.proofs.Lists.{first-some, first_none, decides_has}
use Rattle.laws.proofs.Negation.{choice_neg, holds_neg, negation}
use Rattle.laws.proofs.Occurring.{occurring_falls}
use Rattle.laws.proofs.Reductions.{no_larger_lawful, still_possible}
use Rattle.laws.proofs.Repetition.{repetition}
use Rattle.laws.proofs.Resolving.{any_resolvent, every_resolvents, resolved_lawful, resolved_occurs, resolved_gone, speaks_of}
use Rattle.laws.proofs.Setting.{make_plan, holds_made, holds_other}
use Rattle.laws.proofs.Steps.{step_by, stop_by}

module _ (c : ℕ) where
  -- a clause with another true literal keeps it, whatever is made of c
  other_stays :
      (w : ℕ) (p C : List ℕ) → choice w ≡ c → otherwise_true c p C ≡ true → true_in (make w p) C ≡ true
  other_stays w p C is h =
      let at = any_witness (λ l. not (eqb (choice l) c) && holds p l) C h in
      let l = at.0 in
      let both = and_parts (not (eqb (choice l) c)) (holds p l) at.2 in
      let differs = eqb-false (choice l) c (not-true (eqb (choice l) c) both.0) in
      any_from (holds (make w p)) C l at.1 (holds_other w l p (λ e. differs (e ∙ is)) ∙ both.1)

  -- a true literal of another choice
  other_from : (p C : List ℕ) (l : ℕ) → Contains C l → (choice l ≡ c → ⊥) → holds p l ≡ true → otherwise_true c p C ≡ true
  other_from p C l in' differs h =
      any_from (λ k. not (eqb (choice k) c) && holds p k) C l in'
      (and_from (not (eqb (choice l) c)) (holds p l) (not_from_false (eqb (choice l) c) (ne_eqb (choice l) c differs)) h)

  -- a true clause that does not speak of c has another true literal
  other_alone : (p C : List ℕ) → any (λ l. eqb (choice l) c) C ≡ false → true_in p C ≡ true → otherwise_true c p C ≡ true
  other_alone p C free h =
      let at = any_witness (holds p) C h in
      other_from p C at.0 at.1
      (λ e. both_ways (any (λ l. eqb (choice l) c) C) free (any_from (λ l. eqb (choice l) c) C at.0 at.1 (eq-eqb (choice at.0) c e)))
      at.2

  -- a true lawful clause with a false literal of c has another true literal
  other_false :
      (n : ℕ) (p C : List ℕ) (w : ℕ) → lawful n C ≡ true → choice w ≡ c → Contains C w → holds p w ≡ false → true_in p C ≡ true
      → otherwise_true c p C ≡ true
  other_false n p C w ok is in' fails h =
      let at = any_witness (holds p) C h in
      other_from p C at.0 at.1
      (λ e. both_ways (holds p w) fails (subst (λ l. holds p l ≡ true) (one_of_choice n C ok at.0 w at.1 in' (e ∙ sym is)) at.2))
      at.2

  -- where two clauses clash or their resolvent is true, and the first has no other true literal, the second has one
  pair_says :
      (p C D : List ℕ) → (clash c C D || true_in p (resolvent c C D)) ≡ true → otherwise_true c p C ≡ false
      → otherwise_true c p D ≡ true
  pair_says p C D h fails =
      elim (or_cases (clash c C D) (true_in p (resolvent c C D)) h) [
        | inl against ↦
            let at = any_witness (λ l. not (eqb (choice l) c) && has (neg l) C) D against in
            let l = at.0 in
            let both = and_parts (not (eqb (choice l) c)) (has (neg l) C) at.2 in
            let differs = eqb-false (choice l) c (not-true (eqb (choice l) c) both.0) in
            other_from p D l at.1 differs
            (elim (cases_Bool (holds p l)) [
              | inl t ↦ t
              | inr f ↦
                  let opposite = holds_neg p l ∙ not_from_false (holds p l) f in
                  absurd (both_ways (otherwise_true c p C) fails (other_from p C (neg l) ((decides_has (neg l) C).0 both.1) (λ e. differs (sym (choice_neg l) ∙ e)) opposite))
            ])
        | inr one ↦
            elim (or_cases (otherwise_true c p C) (otherwise_true c p D) (sym (any_resolvent (holds p) c C D) ∙ one)) [
              | inl t ↦ absurd (both_ways (otherwise_true c p C) fails t)
              | inr t ↦ t
            ]
      ]

-- a step's note and table
abbrev note : Tab → ℕ → Elimination
note t c = record { choice = c; clauses = holding (taking c) t.clauses }

abbrev after : Tab → ℕ → Tab
after t c = record { last = t.last; clauses = resolved c t.clauses }

module _ (t : Tab) (ok : Lawful t) (c : ℕ) (low : c ≤ t.last) where
  taking_is : choice (taking c) ≡ c
  taking_is = (negation.1 c).choice_taking

  leaving_is : choice (leaving c) ≡ c
  leaving_is = (negation.1 c).choice_leaving

  module _ (p : List ℕ) (is : PlanOf t.last p) (h : all_true p (resolved c t.clauses) ≡ true) where
    parts : (all_true p (others c t.clauses) ≡ true) × (all_true p (resolvents c t.clauses) ≡ true)
    parts =
        and_parts (all_true p (others c t.clauses)) (all_true p (resolvents c t.clauses))
        (sym (list_all-append (true_in p) (others c t.clauses) (resolvents c t.clauses)) ∙ h)

    -- a clause that does not speak of c stays true
    still_other :
        (w : ℕ) (C : List ℕ) → choice w ≡ c → Contains t.clauses C → any (λ l. eqb (choice l) c) C ≡ false
        → true_in (make w p) C ≡ true
    still_other w C is_c stands free =
        other_stays c w p C is_c
        (other_alone c p C free
        (every_at (true_in p) (others c t.clauses) C parts.0
        (stands_kept (λ D. not (any (λ l. eqb (choice l) c) D)) t.clauses C stands (not_from_false (any (λ l. eqb (choice l) c) C) free))))

    -- a clause with a literal of c is true once that is made true
    own_made : (w : ℕ) (C : List ℕ) → choice w ≡ c → has w C ≡ true → true_in (make w p) C ≡ true
    own_made w C is_c in' =
        any_from (holds (make w p)) C w ((decides_has w C).0 in') (holds_made w p (omega (arith, is.long)))

    pair : (C D : List ℕ) → Contains (holding (taking c) t.clauses) C → Contains (holding (leaving c) t.clauses) D → (clash c C D || true_in p (resolvent c C D)) ≡ true
    pair C D left right =
        let all = sym (every_resolvents (true_in p) c (holding (taking c) t.clauses) (holding (leaving c) t.clauses)) ∙ parts.1 in
        every_at (λ E. clash c C E || true_in p (resolvent c C E)) (holding (leaving c) t.clauses) D
        (every_at (λ B. every (λ E. clash c B E || true_in p (resolvent c B E)) (holding (leaving c) t.clauses)) (holding (taking c) t.clauses) C all left)
        right

    -- a clause is true once a literal of c is made true, if it is where it holds either literal of c
    made_true :
        (w : ℕ) (D : List ℕ) → choice w ≡ c → Contains t.clauses D → (has (taking c) D ≡ true → true_in (make w p) D ≡ true)
        → (has (leaving c) D ≡ true → true_in (make w p) D ≡ true) → true_in (make w p) D ≡ true
    made_true w D is_c stands takes leaves =
        elim (cases_Bool (any (λ l. eqb (choice l) c) D)) [
          | inr free ↦ still_other w D is_c stands free
          | inl speaks ↦ elim (speaks_of c D speaks) [ inl h ↦ takes h | inr h ↦ leaves h ]
        ]

    -- each clause is true with c taken, if a noted clause has no other true literal
    with_taken :
        any (λ C. not (otherwise_true c p C)) (holding (taking c) t.clauses) ≡ true → (D : List ℕ) → Contains t.clauses D
        → true_in (make (taking c) p) D ≡ true
    with_taken some D stands =
        let (C, noted, lacks) = any_witness (λ C. not (otherwise_true c p C)) (holding (taking c) t.clauses) some in
        made_true (taking c) D taking_is stands (own_made (taking c) D taking_is)
        (λ leaves. other_stays c (taking c) p D taking_is
        (pair_says c p C D (pair C D noted (stands_kept (has (leaving c)) t.clauses D stands leaves)) (not-true (otherwise_true c p C) lacks)))

    -- and with c left out, if each has one
    with_left :
        any (λ C. not (otherwise_true c p C)) (holding (taking c) t.clauses) ≡ false → (D : List ℕ) → Contains t.clauses D
        → true_in (make (leaving c) p) D ≡ true
    with_left none D stands =
        made_true (leaving c) D leaving_is stands
        (λ takes. other_stays c (leaving c) p D leaving_is
        (not-false (otherwise_true c p D) (any_none (λ C. not (otherwise_true c p C)) (holding (taking c) t.clauses) D none (stands_kept (has (taking c)) t.clauses D stands takes))))
        (own_made (leaving c) D leaving_is)

    leads_back : all_true (eliminate_undo (note t c) p) t.clauses ≡ true
    leads_back =
        cond_both (any (λ C. not (otherwise_true c p C)) (holding (taking c) t.clauses)) (make (taking c) p) (make (leaving c) p)
        (λ q. all_true q t.clauses ≡ true)
        (λ some. every_from (true_in (make (taking c) p)) t.clauses (with_taken some))
        (λ none. every_from (true_in (make (leaving c) p)) t.clauses (with_left none))

  stays_plan : (p : List ℕ) → PlanOf t.last p → PlanOf t.last (eliminate_undo (note t c) p)
  stays_plan p is =
      cond_both (any (λ C. not (otherwise_true c p C)) (holding (taking c) t.clauses)) (make (taking c) p) (make (leaving c) p)
      (PlanOf t.last) (λ _. make_plan t.last (taking c) p is) (λ _. make_plan t.last (leaving c) p is)

  -- what makes the clauses true makes their resolvents true
  module _ (q : List ℕ) (h : all_true q t.clauses ≡ true) where
    -- a clause with a false literal of c has another true one
    holds_other_one :
        (w : ℕ) (C : List ℕ) → choice w ≡ c → Contains (holding w t.clauses) C → holds q w ≡ false → otherwise_true c q C ≡ true
    holds_other_one w C is_c in' fails =
        let kept = kept_stands (has w) t.clauses C in' in
        other_false c t.last q C w (every_at (lawful t.last) t.clauses C ok.each kept.0) is_c ((decides_has w C).0 kept.1) fails
        (every_at (true_in q) t.clauses C h kept.0)

    resolvent_true :
        (C D : List ℕ) → Contains (holding (taking c) t.clauses) C → Contains (holding (leaving c) t.clauses) D
        → true_in q (resolvent c C D) ≡ true
    resolvent_true C D left right =
        any_resolvent (holds q) c C D
        ∙ elim (cases_Bool (holds q (taking c))) [
          | inr f ↦ or_left (otherwise_true c q C) (otherwise_true c q D) (holds_other_one (taking c) C taking_is left f)
          | inl taken ↦
              let fails : holds q (leaving c) ≡ false =
              ap (holds q) (sym (negation.1 c).neg_taking) ∙ holds_neg q (taking c) ∙ not_from_true (holds q (taking c)) taken in
              or_right (otherwise_true c q C) (otherwise_true c q D) (holds_other_one (leaving c) D leaving_is right fails)
        ]

    still_true : all_true q (resolved c t.clauses) ≡ true
    still_true =
        list_all-append (true_in q) (others c t.clauses) (resolvents c t.clauses)
        ∙ and_from (all_true q (others c t.clauses)) (all_true q (resolvents c t.clauses))
        (every_kept_by (true_in q) (λ C. not (any (λ l. eqb (choice l) c) C)) t.clauses h)
        (every_resolvents (true_in q) c (holding (taking c) t.clauses) (holding (leaving c) t.clauses)
        ∙ every_from (λ C. every (λ D. clash c C D || true_in q (resolvent c C D)) (holding (leaving c) t.clauses)) (holding (taking c) t.clauses)
        (λ C left. every_from (λ D. clash c C D || true_in q (resolvent c C D)) (holding (leaving c) t.clauses)
        (λ D right. or_right (clash c C D) (true_in q (resolvent c C D)) (resolvent_true C D left right))))

  good_step : occurs_in c t.clauses ≡ true → no_growth c t.clauses ≡ true → GoodStep eliminate t (note t c) (after t c)
  good_step was small =
      let bounds = and_parts (leb (length (resolved c t.clauses)) (length t.clauses)) (leb (literals (resolved c t.clauses)) (literals t.clauses)) small in
      let few = leb-true (length (resolved c t.clauses)) (length t.clauses) bounds.0 in
      let short = leb-true (literals (resolved c t.clauses)) (literals t.clauses) bounds.1 in
      let less : NoLarger t (after t c) = record { same_last = refl; no_more_clauses = few; no_more_literals = short } in
      record {
        table = no_larger_lawful t (after t c) ok less (resolved_lawful c t.clauses t.last ok.each);
        no_larger = less;
        plans = stays_plan;
        back = leads_back;
        possible = still_possible t (resolved c t.clauses) still_true;
        falls = occurring_falls t (after t c) c refl (λ d h. (resolved_occurs c t.clauses d h).0) low was (resolved_gone c t.clauses);
      }

safe : Safe eliminate
unfolding eliminate_next
safe notes t ok n u e =
    let test = qualifies notes t.clauses in
    let choices = range_with_len 0 (t.last + 1) in
    step_by (GoodStep eliminate t) (note t) (after t) (first test choices)
    (λ c found.
    let is = first-some test choices c found in
    let low : c ≤ t.last = omega (arith, counting_has (t.last + 1) c is.0) in
    let tests = and_parts (occurs_in c t.clauses) (no_growth c t.clauses && note_fits notes (holding (taking c) t.clauses)) is.1 in
    let small = (and_parts (no_growth c t.clauses) (note_fits notes (holding (taking c) t.clauses)) tests.1).0 in
    good_step t ok c low tests.0 small)
    n u e

-- a choice that qualifies in the subject's words passes the test
qualifies_from : (notes : List Elimination) (t : Tab) (c : ℕ) → Qualifies notes t c → qualifies notes t.clauses c ≡ true
qualifies_from notes t c q =
    and_from (occurs_in c t.clauses) (no_growth c t.clauses && note_fits notes (holding (taking c) t.clauses)) q.occurs
    (and_from (no_growth c t.clauses) (note_fits notes (holding (taking c) t.clauses))
    (and_from (leb (length (resolved c t.clauses)) (length t.clauses)) (leb (literals (resolved c t.clauses)) (literals t.clauses))
    (le-leb (length (resolved c t.clauses)) (length t.clauses) q.no_more_clauses)
    (le-leb (literals (resolved c t.clauses)) (literals t.clauses) q.no_more_literals))
    (and_from (leb (length (holding (taking c) t.clauses) + noted_clauses notes) 1024) (leb (literals (holding (taking c) t.clauses) + noted_literals notes) 8192)
    (le-leb (length (holding (taking c) t.clauses) + noted_clauses notes) 1024 q.note_clauses)
    (le-leb (literals (holding (taking c) t.clauses) + noted_literals notes) 8192 q.note_literals)))

ended : (t : Tab) → Lawful t → NoQualified (ran eliminate t).notes (ran eliminate t).table
unfolding eliminate_next
ended t ok c q =
    let end = (ran eliminate t).table in
    let notes = (ran eliminate t).notes in
    let test = qualifies notes end.clauses in
    let choices = range_with_len 0 (end.last + 1) in
    let none = stop_by (note end) (after end) (first test choices) (repetition eliminate safe t ok).no_step_left in
    both_ways (test c) (any_none test choices c (first_none test choices none) (has_counting (end.last + 1) c (omega (arith, q.inside))))
    (qualifies_from notes end c q)

pub eliminate_law : EliminateLaw
eliminate_law = record { safe = safe; repeats = repetition eliminate safe; ended = ended }
