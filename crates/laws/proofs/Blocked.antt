-- Blocked: its steps are safe, and at its end no clause is blocked.
use Rattle.std.proofs.Common.{◌≡◌, ℕ, ◌<◌, Bool, true, false, not, ◌&&◌, ◌||◌, eqb, List, [], length, Contains, sym, refl, ap, ◌∙◌, subst, inl, inr, arith}
use Rattle.std.specs.List.{remove}
use Rattle.std.proofs.lemmas.List.Edits.{length-remove}
use Rattle.std.proofs.lemmas.Bool.{cases_Bool, and_parts, and_from, both_ways, not-true, not_from_false, eqb-false, ne_eqb, or_left, or_right, cond_both}
use Rattle.std.proofs.lemmas.Bool.Decides.{nat_tests}
use Rattle.laws.specs.Blocked.{hinders, blocks, Removal, blocked_next, blocked_undo, blocked, Blocks, NoBlocked, BlockedLaw}
use Rattle.laws.specs.Clauses.{true_in, all_true, lawful}
use Rattle.laws.specs.Lists.{every, has}
use Rattle.laws.specs.Literals.{choice, neg, holds}
use Rattle.laws.specs.Plans.{PlanOf}
use Rattle.laws.specs.Reductions.{NoLarger}
use Rattle.laws.specs.Rules.{GoodStep, Safe, ran}
use Rattle.laws.specs.Setting.{make}
use Rattle.laws.specs.Spots.{Spot, spot, FirstSpot}
use Rattle.laws.specs.Tables.{Tab, Lawful}
use Rattle.laws.proofs.Kept.{any_witness, any_from, any_none, every_at, every_from}
use Rattle.laws.proofs.Lawful.{one_of_choice}
use Rattle.laws.proofs.Lists.{decides_has}
use Rattle.laws.proofs.Negation.{choice_neg, holds_neg}
use Rattle.laws.proofs.Occurring.{literal_low}
use Rattle.laws.proofs.Reductions.{no_larger_lawful, still_possible}
use Rattle.laws.proofs.Repetition.{repetition}
use Rattle.laws.proofs.Replaced.{every_parted, literals_removed}
use Rattle.laws.proofs.Setting.{choice_below, make_plan, holds_made, holds_other, holds_stays}
use Rattle.laws.proofs.Spots.{spot_some, spot_none, spot_stands}
use Rattle.laws.proofs.Steps.{step_by, stop_by}

-- C is false, and a is one of its literals, which is made true: a true clause D stays true if it does not hold the
-- negation of a, or also holds the negation of another literal of C
still_true :
    (n : ℕ) (p C : List ℕ) (a : ℕ) (D : List ℕ) → lawful n C ≡ true → Contains C a → choice a < length p → true_in p C ≡ false
    → (not (has (neg a) D) || hinders C a D) ≡ true → true_in p D ≡ true → true_in (make a p) D ≡ true
still_true n p C a D ok in-C low false-C free true-D =
    elim (cases_Bool (has (neg a) D)) [
      | inl t ↦
          let some : hinders C a D ≡ true = grind (arith, nat_tests) in
          let (l, in-l, both) = any_witness (λ l. not (eqb l a) && has (neg l) D) C some in
          let parts = and_parts (not (eqb l a)) (has (neg l) D) both in
          let differs = eqb-false l a (not-true (eqb l a) parts.0) in
          let apart : choice (neg l) ≡ choice a → ⊥ = λ e. differs (one_of_choice n C ok l a in-l in-C (sym (choice_neg l) ∙ e)) in
          let fails = any_none (holds p) C l false-C in-l in
          any_from (holds (make a p)) D (neg l) ((decides_has (neg l) D).0 parts.1)
          (holds_other a (neg l) p apart ∙ holds_neg p l ∙ not_from_false (holds p l) fails)
      | inr f ↦
          let (l, in-l, h) = any_witness (holds p) D true-D in
          let differs : l ≡ neg a → ⊥ = λ e. both_ways (has (neg a) D) f ((decides_has (neg a) D).1 (subst (Contains D) e in-l)) in
          any_from (holds (make a p)) D l in-l (holds_stays a l p differs low h)
    ]

-- the table without the clause at a spot
abbrev after : Tab → Spot → Tab
after t s = record { last = t.last; clauses = remove t.clauses s.at }

-- the clause and its literal are noted
abbrev note : Spot → Removal
note s = record { clause = s.clause; literal = s.literal }

-- the removal of a blocked clause is a good step
module _ (t : Tab) (ok : Lawful t) (s : Spot) (found : FirstSpot (blocks t.clauses) t.clauses s) where
  abbrev rest : List (List ℕ)
  rest = remove t.clauses s.at

  -- a test over the clauses is one over the clause and the rest
  parted : (f : List ℕ → Bool) → every f t.clauses ≡ (f s.clause && every f rest)
  parted f = every_parted f t.clauses s.at [] found.inside ∙ ap (λ C. f C && every f rest) (sym found.clause_is)

  stands : Contains t.clauses s.clause
  stands = spot_stands (blocks t.clauses) t.clauses s found

  lawful_clause : lawful t.last s.clause ≡ true
  lawful_clause = every_at (lawful t.last) t.clauses s.clause ok.each stands

  no_larger : NoLarger t (after t s)
  no_larger =
      record {
        same_last = refl;
        no_more_clauses = omega (arith, length-remove t.clauses s.at found.inside);
        no_more_literals = literals_removed t.clauses s.at;
      }

  -- what holds of each clause holds of each that is left
  every_left : (f : List ℕ → Bool) → every f t.clauses ≡ true → every f rest ≡ true
  every_left f h = (and_parts (f s.clause) (every f rest) (sym (parted f) ∙ h)).1

  -- where the clause is false, its literal is made true
  made_true : (p : List ℕ) → PlanOf t.last p → all_true p rest ≡ true → true_in p s.clause ≡ false → all_true (make s.literal p) t.clauses ≡ true
  made_true p is h f =
      let below = choice_below t.last s.literal (literal_low t s.clause s.literal ok stands found.literal) in
      let low : choice s.literal < length p = omega (arith, is.long) in
      let test : List ℕ → Bool = λ D. not (has (neg s.literal) D) || hinders s.clause s.literal D in
      let free = every_left test found.passes in
      parted (true_in (make s.literal p))
      ∙ and_from (true_in (make s.literal p) s.clause) (all_true (make s.literal p) rest)
      (any_from (holds (make s.literal p)) s.clause s.literal found.literal (holds_made s.literal p low))
      (every_from (true_in (make s.literal p)) rest (λ D stands. still_true t.last p s.clause s.literal D lawful_clause found.literal low f (every_at test rest D free stands) (every_at (true_in p) rest D h stands)))

  removed_back :
      (p : List ℕ) → PlanOf t.last p → all_true p rest ≡ true → all_true (blocked_undo (note s) p) t.clauses ≡ true
  removed_back p is h =
      cond_both (true_in p s.clause) p (make s.literal p) (λ q. all_true q t.clauses ≡ true)
      (λ t'. parted (true_in p) ∙ and_from (true_in p s.clause) (all_true p rest) t' h)
      (made_true p is h)

  good_step : GoodStep blocked t (note s) (after t s)
  good_step =
      record {
        table = no_larger_lawful t (after t s) ok no_larger (every_left (lawful t.last) ok.each);
        no_larger = no_larger;
        plans = λ p is. cond_both (true_in p s.clause) p (make s.literal p) (PlanOf t.last) (λ _. is) (λ _. make_plan t.last s.literal p is);
        back = removed_back;
        possible = still_possible t rest (λ p. every_left (true_in p));
        falls = omega (arith, length-remove t.clauses s.at found.inside);
      }

safe : Safe blocked
unfolding blocked_next
safe notes t ok n u e =
    let Cs = t.clauses in
    step_by (GoodStep blocked t) note (after t) (spot (blocks Cs) Cs) (λ s is. good_step t ok s (spot_some (blocks Cs) Cs s is)) n u e

-- a clause that is blocked in the subject's words passes the test
blocks_from : (Cs : List (List ℕ)) (C : List ℕ) (a : ℕ) → Blocks Cs C a → blocks Cs C a ≡ true
blocks_from Cs C a h =
    every_from (λ D. not (has (neg a) D) || hinders C a D) Cs
    (λ D stands. elim (cases_Bool (has (neg a) D)) [
      | inl t ↦
          let (l, in-C, differs, in_D) = h.hindered D stands ((decides_has (neg a) D).0 t) in
          or_right (not (has (neg a) D)) (hinders C a D)
          (any_from (λ m. not (eqb m a) && has (neg m) D) C l in-C (and_from (not (eqb l a)) (has (neg l) D) (not_from_false (eqb l a) (ne_eqb l a differs)) ((decides_has (neg l) D).1 in_D)))
      | inr f ↦ or_left (not (has (neg a) D)) (hinders C a D) (not_from_false (has (neg a) D) f)
    ])

ended : (t : Tab) → Lawful t → NoBlocked (ran blocked t).table.clauses
unfolding blocked_next
ended t ok C a h =
    let Cs = (ran blocked t).table.clauses in
    let none = stop_by note (after (ran blocked t).table) (spot (blocks Cs) Cs) (repetition blocked safe t ok).no_step_left in
    both_ways (blocks Cs C a) (spot_none (blocks Cs) Cs none C h.stands a h.literal) (blocks_from Cs C a h)

pub blocked_law : BlockedLaw
blocked_law = record { safe = safe; repeats = repetition blocked safe; ended = ended }
