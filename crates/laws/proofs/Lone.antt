-- Lone: its steps are safe, and at its end no clause of one literal is left.
use Rattle.std.proofs.Common.{◌≡◌, ◌≢◌, ℕ, zero, suc, ◌<◌, true, List, [], ◌∷◌, length, get_or, Some, None, Contains, sym, refl, ap, ◌∙◌, subst, inl, inr, arith}
use Rattle.std.proofs.Math.Bool.{or-false}
use Rattle.std.proofs.lemmas.List.Elements.{All-nil, All-cons, Contains-get_or}
use Rattle.std.proofs.lemmas.Bool.Decides.{nat_tests}
use Rattle.laws.specs.Clauses.{true_in, all_true}
use Rattle.laws.specs.Literals.{holds}
use Rattle.laws.specs.Lone.{single, lone_in, lone_next, lone, NoLone, FirstLone, LoneLaw}
use Rattle.laws.specs.Rules.{GoodStep, Safe, ran}
use Rattle.laws.specs.Setting.{meets, with_set}
use Rattle.laws.specs.Tables.{Tab, Lawful}
use Rattle.laws.proofs.Kept.{has_here, any_from, every_at}
use Rattle.laws.proofs.Lists.{below_cons}
use Rattle.laws.proofs.Occurring.{literal_low}
use Rattle.laws.proofs.Options.{no, or_else_none, or_else_some, or_else_skips, or_else_stops}
use Rattle.laws.proofs.Repetition.{repetition}
use Rattle.laws.proofs.Setting.{make_plan, set_back, set_possible, assigned_lawful, assigned_no_larger, assign_fewer}
use Rattle.laws.proofs.Steps.{step_by, stop_by}

-- a clause has just one literal exactly if it is the clause of that literal, and none exactly if its length is not 1
single_is : (C : List ℕ) (w : ℕ) → single C ≡ Some w → C ≡ w ∷ []
single_is [] w h = no (cc)
single_is (v ∷ []) w h = cc
single_is (v ∷ u ∷ C) w h = no (cc)

single_none : (C : List ℕ) → single C ≡ None → length C ≡ 1 → ⊥
single_none [] h one = omega arith
single_none (v ∷ []) h one = no (cc)
single_none (v ∷ u ∷ C) h one = omega arith

none_single : (C : List ℕ) → (length C ≡ 1 → ⊥) → single C ≡ None
none_single [] h = refl
none_single (v ∷ []) h = absurd (h refl)
none_single (v ∷ u ∷ C) h = refl

-- the literal found is that of the first one-literal clause
lone_first : (Cs : List (List ℕ)) (w : ℕ) → lone_in Cs ≡ Some w → FirstLone Cs w
lone_first [] w h = no (cc)
lone_first (C ∷ Cs) w h =
    elim (or_else_some (single C) (lone_in Cs) w h) [
      | inl here ↦ record { at = 0; inside = omega arith; clause_is = single_is C w here; before = λ j lt. absurd (omega arith) }
      | inr later ↦
          let ih = lone_first Cs w later.1 in
          record {
            at = suc ih.at;
            inside = omega arith;
            clause_is = ih.clause_is;
            before = below_cons (λ j. length (get_or (C ∷ Cs) j []) ≡ 1 → ⊥) ih.at (single_none C later.0) ih.before;
          }
    ]

first_lone :
    (Cs : List (List ℕ)) (w i : ℕ) → i < length Cs → get_or Cs i [] ≡ w ∷ []
    → ((j : ℕ) → j < i → length (get_or Cs j []) ≡ 1 → ⊥) → lone_in Cs ≡ Some w
first_lone [] w i lt is before = absurd (omega arith)
first_lone (C ∷ Cs) w zero lt is before = or_else_stops (single C) (lone_in Cs) w (ap single is)
first_lone (C ∷ Cs) w (suc i) lt is before =
    or_else_skips (single C) (lone_in Cs) (none_single C (before 0 (omega arith)))
    ∙ first_lone Cs w i (omega arith) is (λ j less. before (suc j) (omega arith))

-- so it stands alone in a clause, and each plan that makes the clauses true makes it true
pub lone_stands : (Cs : List (List ℕ)) (w : ℕ) → lone_in Cs ≡ Some w → Contains Cs (w ∷ [])
lone_stands Cs w h =
    let found = lone_first Cs w h in
    subst (Contains Cs) found.clause_is (Contains-get_or Cs found.at [] found.inside)

pub lone_holds : (Cs : List (List ℕ)) (w : ℕ) (p : List ℕ) → Contains Cs (w ∷ []) → all_true p Cs ≡ true → holds p w ≡ true
lone_holds Cs w p stands h = sym (or-false (holds p w)) ∙ every_at (true_in p) Cs (w ∷ []) h stands

-- none is found only if no clause has just one literal
lone_none : (Cs : List (List ℕ)) → lone_in Cs ≡ None → NoLone Cs
lone_none [] h = All-nil (λ C. length C ≢ 1)
lone_none (C ∷ Cs) h =
    let both = or_else_none (single C) (lone_in Cs) h in
    All-cons (λ C. length C ≢ 1) C Cs (single_none C both.0) (lone_none Cs both.1)

-- setting a literal that stands alone in a clause is a good step
good_step : (t : Tab) (w : ℕ) → Lawful t → Contains t.clauses (w ∷ []) → GoodStep lone t w (with_set w t)
good_step t w ok stands =
    let low = literal_low t (w ∷ []) w ok stands (has_here w []) in
    record {
      table = assigned_lawful (w ∷ []) t ok;
      no_larger = assigned_no_larger (w ∷ []) t;
      plans = make_plan t.last w;
      back = λ p is h. (set_back t w p low is h).1;
      possible = λ can. set_possible t w can (lone_holds t.clauses w can.plan stands can.keeps);
      falls =
          assign_fewer (w ∷ []) t.clauses
          (any_from (meets (w ∷ [])) t.clauses (w ∷ []) stands (grind (arith, nat_tests)));
    }

safe : Safe lone
unfolding lone_next
safe notes t ok n u e =
    step_by (GoodStep lone t) (λ w. w) (λ w. with_set w t) (lone_in t.clauses)
    (λ w is. good_step t w ok (lone_stands t.clauses w is)) n u e

ended : (t : Tab) → Lawful t → NoLone (ran lone t).table.clauses
unfolding lone_next
ended t ok =
    let end = (ran lone t).table in
    lone_none end.clauses (stop_by (λ w. w) (λ w. with_set w end) (lone_in end.clauses) (repetition lone safe t ok).no_step_left)

pub lone_law : LoneLaw
lone_law =
    record {
      first = λ Cs w. (lone_first Cs w, λ h. first_lone Cs w h.at h.inside h.clause_is h.before);
      safe = safe;
      repeats = repetition lone safe;
      ended = ended;
    }
