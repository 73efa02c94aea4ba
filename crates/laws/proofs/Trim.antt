-- Trim: its steps are safe, and at its end no literal can be trimmed.
use Rattle.std.proofs.Common.{◌≡◌, ℕ, ◌<◌, true, not, ◌||◌, eqb, List, [], ◌∷◌, length, get_or, Contains, sym, refl, ap, ◌∙◌, subst, inl, inr, arith}
use Rattle.std.proofs.lemmas.List.{length-set}
use Rattle.std.proofs.lemmas.List.Elements.{Contains-get_or}
use Rattle.std.proofs.lemmas.Bool.{cases_Bool, cases_eq, and_parts, and_from, both_ways, not_from_false, eqb-true, eq-eqb, ne_eqb, or_left, or_right, or_cases}
use Rattle.std.proofs.lemmas.Bool.Decides.{nat_tests}
use Rattle.laws.specs.Clauses.{true_in, all_true, lawful, literals}
use Rattle.laws.specs.Lists.{every, has}
use Rattle.laws.specs.Literals.{neg, holds}
use Rattle.laws.specs.Reductions.{NoLarger}
use Rattle.laws.specs.Rules.{GoodStep, Safe, ran}
use Rattle.laws.specs.Spots.{Spot, spot, FirstSpot}
use Rattle.laws.specs.Tables.{Tab, Lawful}
use Rattle.laws.specs.Trim.{shortens, trims, without, deleted_at, trim_next, trim, Trims, NoTrim, TrimLaw}
use Rattle.laws.proofs.Kept.{any_witness, any_from, every_at, every_from, kept_stands, stands_kept, lawful_kept_by, length_kept_by_le}
use Rattle.laws.proofs.Lawful.{one_of_choice}
use Rattle.laws.proofs.Lists.{decides_has}
use Rattle.laws.proofs.Negation.{choice_neg, neg_differs, holds_neg}
use Rattle.laws.proofs.Options.{no}
use Rattle.laws.proofs.Reductions.{no_larger_lawful, still_possible}
use Rattle.laws.proofs.Repetition.{repetition}
use Rattle.laws.proofs.Replaced.{every_set, every_unset, literals_set}
use Rattle.laws.proofs.Spots.{spot_some, spot_none, spot_stands}
use Rattle.laws.proofs.Steps.{step_by, stop_by}

-- a clause without a literal that stands in it is shorter
length_without : (x : ℕ) (C : List ℕ) → has x C ≡ true → length (without x C) < length C
length_without x [] h = no (cc)
length_without x (y ∷ ys) h =
    elim (cases_Bool (eqb y x)) [
      | inl t ↦ let le = length_kept_by_le (λ l. not (eqb l x)) ys in grind (arith, nat_tests)
      | inr f ↦ let lt = length_without x ys (grind (arith, nat_tests)) in grind (arith, nat_tests)
    ]

-- a literal that is true and is not x makes the clause without x true
true_without :
    (p D : List ℕ) (x l : ℕ) → Contains D l → (l ≡ x → ⊥) → holds p l ≡ true → true_in p (without x D) ≡ true
true_without p D x l stands differs h =
    any_from (holds p) (without x D) l (stands_kept (λ k. not (eqb k x)) D l stands (not_from_false (eqb l x) (ne_eqb l x differs))) h

-- and if the clause without x is true, so is the clause
true_with : (p D : List ℕ) (x : ℕ) → true_in p (without x D) ≡ true → true_in p D ≡ true
true_with p D x h =
    let (l, stands, t) = any_witness (holds p) (without x D) h in
    any_from (holds p) D l (kept_stands (λ k. not (eqb k x)) D l stands).0 t

-- E shortens D by x: a plan that makes both true makes D without x true
true_shorter :
    (n : ℕ) (p D : List ℕ) (x : ℕ) (E : List ℕ) → lawful n E ≡ true → shortens D x E ≡ true → true_in p D ≡ true
    → true_in p E ≡ true → true_in p (without x D) ≡ true
true_shorter n p D x E ok short true-D true-E =
    let parts = and_parts (has (neg x) E) (every (λ l. eqb l (neg x) || has l D) E) short in
    elim (cases_Bool (holds p x)) [
      | inl t ↦
          let (l, in-E, h) = any_witness (holds p) E true-E in
          let other : l ≡ neg x → ⊥ = λ e. both_ways (holds p l) (ap (holds p) e ∙ holds_neg p x ∙ ap not t) h in
          let differs : l ≡ x → ⊥ = λ e.
          neg_differs x (one_of_choice n E ok (neg x) x ((decides_has (neg x) E).0 parts.0) (subst (Contains E) e in-E) (choice_neg x))
          in
          let in_D : Contains D l =
          elim (or_cases (eqb l (neg x)) (has l D) (every_at (λ l. eqb l (neg x) || has l D) E l parts.1 in-E)) [
            | inl e ↦ absurd (other (eqb-true l (neg x) e))
            | inr i ↦ (decides_has l D).0 i
          ]
          in
          true_without p D x l in_D differs h
      | inr f ↦
          let (l, in_D, h) = any_witness (holds p) D true-D in
          true_without p D x l in_D (λ e. both_ways (holds p x) f (ap (holds p) (sym e) ∙ h)) h
    ]

-- the table with the literal of a spot deleted
abbrev after : Tab → Spot → Tab
after t s = record { last = t.last; clauses = deleted_at s.at s.literal t.clauses }

-- nothing is noted
abbrev note : Spot → Unit {0}
note s = tt

-- deleting a literal that a clause makes needless is a good step
module _ (t : Tab) (ok : Lawful t) (s : Spot) (found : FirstSpot (trims t.clauses) t.clauses s) where
  abbrev shorter : List ℕ
  shorter = without s.literal (get_or t.clauses s.at [])

  stands_there : Contains (get_or t.clauses s.at []) s.literal
  stands_there = subst (λ C. Contains C s.literal) found.clause_is found.literal

  fewer_literals : literals (after t s).clauses < literals t.clauses
  fewer_literals =
      omega (arith, literals_set t.clauses s.at shorter found.inside, length_without s.literal (get_or t.clauses s.at []) ((decides_has s.literal (get_or t.clauses s.at [])).1 stands_there))

  as_many : length (after t s).clauses ≡ length t.clauses
  as_many = length-set t.clauses s.at shorter

  no_larger : NoLarger t (after t s)
  no_larger = record { same_last = refl; no_more_clauses = omega (arith, as_many); no_more_literals = omega (arith, fewer_literals) }

  deleted_each : every (lawful t.last) (after t s).clauses ≡ true
  deleted_each =
      every_set (lawful t.last) t.clauses s.at shorter ok.each
      (lawful_kept_by t.last (λ l. not (eqb l s.literal)) (get_or t.clauses s.at []) (every_at (lawful t.last) t.clauses (get_or t.clauses s.at []) ok.each (Contains-get_or t.clauses s.at [] found.inside)))

  -- what makes the clauses true makes them true without the literal
  still_true : (p : List ℕ) → all_true p t.clauses ≡ true → all_true p (after t s).clauses ≡ true
  still_true p h =
      let (E, in-E, short) = any_witness (shortens s.clause s.literal) t.clauses found.passes in
      let got = true_shorter t.last p s.clause s.literal E (every_at (lawful t.last) t.clauses E ok.each in-E) short (every_at (true_in p) t.clauses s.clause h (spot_stands (trims t.clauses) t.clauses s found)) (every_at (true_in p) t.clauses E h in-E) in
      every_set (true_in p) t.clauses s.at shorter h (subst (λ C. true_in p (without s.literal C) ≡ true) found.clause_is got)

  good_step : GoodStep trim t tt (after t s)
  good_step =
      record {
        table = no_larger_lawful t (after t s) ok no_larger deleted_each;
        no_larger = no_larger;
        plans = λ p is. is;
        back = λ p is h.
            every_unset (true_in p) t.clauses s.at shorter [] found.inside
            (true_with p (get_or t.clauses s.at []) s.literal) h;
        possible = still_possible t (after t s).clauses still_true;
        falls = fewer_literals;
      }

safe : Safe trim
unfolding trim_next
safe notes t ok n u e =
    let Cs = t.clauses in
    step_by (GoodStep trim t) note (after t) (spot (trims Cs) Cs) (λ s is. good_step t ok s (spot_some (trims Cs) Cs s is)) n u e

-- a literal that can be trimmed in the subject's words passes the test
trims_from : (Cs : List (List ℕ)) (D : List ℕ) (x : ℕ) (E : List ℕ) → Trims Cs D x E → trims Cs D x ≡ true
trims_from Cs D x E h =
    any_from (shortens D x) Cs E h.other
    (and_from (has (neg x) E) (every (λ l. eqb l (neg x) || has l D) E) ((decides_has (neg x) E).1 h.negated)
    (every_from (λ l. eqb l (neg x) || has l D) E
    (λ l stands. elim (cases_eq l (neg x)) [
      | inl e ↦ or_left (eqb l (neg x)) (has l D) (eq-eqb l (neg x) e)
      | inr differs ↦ or_right (eqb l (neg x)) (has l D) ((decides_has l D).1 (h.inside l stands differs))
    ])))

ended : (t : Tab) → Lawful t → NoTrim (ran trim t).table.clauses
unfolding trim_next
ended t ok D x E h =
    let Cs = (ran trim t).table.clauses in
    let none = stop_by note (after (ran trim t).table) (spot (trims Cs) Cs) (repetition trim safe t ok).no_step_left in
    both_ways (trims Cs D x) (spot_none (trims Cs) Cs none D h.stands x h.literal) (trims_from Cs D x E h)

pub trim_law : TrimLaw
trim_law = record { safe = safe; repeats = repetition trim safe; ended = ended }
