-- Cover: it has the three points, one pass is enough, and at its end no clause contains another.
use Rattle.std.proofs.Common.{◌≡◌, ℕ, zero, suc, ◌<◌, ◌≤◌, Bool, true, false, not, ◌&&◌, ltb, ◌⊎◌, List, [], ◌∷◌, ◌++◌, length, get_or, Contains, sym, refl, ap, ◌∙◌, subst, inl, inr, arith}
use Rattle.std.proofs.lemmas.List.Elements.{Contains-append_left, Contains-append_right, Contains-push, Contains-push_cases}
use Rattle.std.proofs.lemmas.List.{append_assoc}
use Rattle.std.proofs.lemmas.Bool.{cases_lt, cases_order, and_parts, and_from, both_ways, not-true, not_from_false, ltb-true, lt-ltb, le-ltb, or_cases, or_parts, or_from, cond-true, cond-false, cond_both}
use Rattle.std.proofs.lemmas.Bool.Decides.{nat_tests}
use Rattle.laws.specs.Clauses.{true_in, all_true, lawful, literals}
use Rattle.laws.specs.Cover.{inside, covered, uncovered, uncover, cover, cover_next, cover_rule, NoCovered, CoverLaw}
use Rattle.laws.specs.Lists.{any, every, has}
use Rattle.laws.specs.Literals.{holds}
use Rattle.laws.specs.Reductions.{NoLarger, Points}
use Rattle.laws.specs.Rules.{GoodStep, Safe, ran}
use Rattle.laws.specs.Rules.Next.{stop, step}
use Rattle.laws.specs.Rules.Runs.{ends, goes}
use Rattle.laws.specs.Tables.{Tab, Lawful}
use Rattle.laws.proofs.Kept.{has_none, has_here, has_later, any_witness, any_from, any_none, none_from, every_at, every_from}
use Rattle.laws.proofs.Lists.{decides_has, every_get_d, every_weaker}
use Rattle.laws.proofs.Reductions.{no_larger_lawful, still_possible}
use Rattle.laws.proofs.Repetition.{repetition}
use Rattle.laws.proofs.Steps.{step_if}

-- a clause lies in itself; if it lies in D, and D in E, it lies in E; and each clause that a true one lies in is true
inside_refl : (C : List ℕ) → inside C C ≡ true
inside_refl C = every_from (λ l. has l C) C (λ l stands. (decides_has l C).1 stands)

inside_trans : (C D E : List ℕ) → inside C D ≡ true → inside D E ≡ true → inside C E ≡ true
inside_trans C D E h k =
    every_from (λ l. has l E) C
    (λ l stands. every_at (λ m. has m E) D l k ((decides_has l D).0 (every_at (λ m. has m D) C l h stands)))

inside_true : (p C D : List ℕ) → inside C D ≡ true → true_in p C ≡ true → true_in p D ≡ true
inside_true p C D h true-C =
    let (l, stands, t) = any_witness (holds p) C true-C in
    any_from (holds p) D l ((decides_has l D).0 (every_at (λ m. has m D) C l h stands)) t

-- what stands in a list stands there without y, or is y
has_middle : {X : Type 0} (xs ys : List X) (y x : X) → Contains ((xs ++ y ∷ []) ++ ys) x → Contains (xs ++ ys) x ⊎ (y ≡ x)
has_middle [] ys y x (zero, lt, at) = inr at
has_middle [] ys y x (suc k, lt, at) = inl (k, omega arith, at)
has_middle (z ∷ zs) ys y x (zero, lt, at) = inl (0, omega arith, at)
has_middle (z ∷ zs) ys y x (suc k, lt, at) =
    elim (has_middle zs ys y x (k, omega arith, at)) [
      | inl h ↦ inl (has_later z (zs ++ ys) x h)
      | inr e ↦ inr e
    ]

-- what is left behind C
abbrev behind : List (List ℕ) → List ℕ → List (List ℕ) → List (List ℕ)
behind before C Cs = uncovered (before ++ C ∷ []) Cs

-- C goes or stays
uncovered_both :
    (before : List (List ℕ)) (C : List ℕ) (Cs : List (List ℕ)) (P : List (List ℕ) → Type 0)
    → (covered before C Cs ≡ true → P (behind before C Cs)) → (covered before C Cs ≡ false → P (C ∷ behind before C Cs))
    → P (uncovered before (C ∷ Cs))
uncovered_both before C Cs P gone stays = cond_both (covered before C Cs) (behind before C Cs) (C ∷ behind before C Cs) P gone stays

-- the clauses that are not covered are some of the clauses
every_uncovered :
    (f : List ℕ → Bool) (before Cs : List (List ℕ)) → every f Cs ≡ true → every f (uncovered before Cs) ≡ true
every_uncovered f before [] h = refl
every_uncovered f before (C ∷ Cs) h =
    let both = and_parts (f C) (every f Cs) h in
    let ih = every_uncovered f (before ++ C ∷ []) Cs both.1 in
    uncovered_both before C Cs (λ Ds. every f Ds ≡ true) (λ _. ih) (λ _. and_from (f C) (every f (behind before C Cs)) both.0 ih)

length_uncovered : (before Cs : List (List ℕ)) → length (uncovered before Cs) ≤ length Cs
length_uncovered before [] = omega arith
length_uncovered before (C ∷ Cs) =
    let ih = length_uncovered (before ++ C ∷ []) Cs in
    uncovered_both before C Cs (λ Ds. length Ds ≤ length (C ∷ Cs)) (λ _. omega arith) (λ _. omega arith)

literals_uncovered : (before Cs : List (List ℕ)) → literals (uncovered before Cs) ≤ literals Cs
literals_uncovered before [] = omega arith
literals_uncovered before (C ∷ Cs) =
    let ih = literals_uncovered (before ++ C ∷ []) Cs in
    uncovered_both before C Cs (λ Ds. literals Ds ≤ literals (C ∷ Cs)) (λ _. omega arith) (λ _. omega arith)

-- if they are as many, they are all
all_uncovered : (before Cs : List (List ℕ)) → length Cs ≤ length (uncovered before Cs) → uncovered before Cs ≡ Cs
all_uncovered before [] h = refl
all_uncovered before (C ∷ Cs) h =
    let fewer = length_uncovered (before ++ C ∷ []) Cs in
    uncovered_both before C Cs (λ Ds. length (C ∷ Cs) ≤ length Ds → Ds ≡ C ∷ Cs)
    (λ _ k. absurd (omega arith))
    (λ _ k. ap (λ Ds. C ∷ Ds) (all_uncovered (before ++ C ∷ []) Cs (omega arith)))
    h

-- one of the clauses lies in X
record Below (Ds : List (List ℕ)) (X : List ℕ) : Type 0 where
  clause : List ℕ
  stands : Contains Ds clause
  lies : inside clause X ≡ true

module _ (before : List (List ℕ)) (C : List ℕ) (Ds : List (List ℕ)) where
  -- a clause that lies in X is found without C, if one is where C lies in X
  below_without :
      (X : List ℕ) → (inside C X ≡ true → Below (before ++ Ds) X) → Below ((before ++ C ∷ []) ++ Ds) X → Below (before ++ Ds) X
  below_without X lower b =
      elim (has_middle before Ds C b.clause b.stands) [
        | inl h ↦ record { clause = b.clause; stands = h; lies = b.lies }
        | inr e ↦ lower (subst (λ D. inside D X ≡ true) (sym e) b.lies)
      ]

  -- C is covered, and in each later clause lies one: so one lies in C. If a later clause E covers C, then what lies in E
  -- is not C, since C does not lie in E
  below_covered :
      (Cs : List (List ℕ)) → ((X : List ℕ) → Contains Cs X → Below ((before ++ C ∷ []) ++ Ds) X) → covered before C Cs ≡ true
      → Below (before ++ Ds) C
  below_covered Cs later h =
      elim (or_cases (any (λ D. inside D C) before) (any (λ D. inside D C && not (inside C D)) Cs) h) [
        | inl old ↦
            let (E, stands, lies) = any_witness (λ D. inside D C) before old in
            record { clause = E; stands = Contains-append_left before Ds E stands; lies = lies }
        | inr new ↦
            let (E, stands, both) = any_witness (λ D. inside D C && not (inside C D)) Cs new in
            let parts = and_parts (inside E C) (not (inside C E)) both in
            let b = below_without E (λ in'. absurd (both_ways (inside C E) (not-true (inside C E) parts.1) in')) (later E stands) in
            record { clause = b.clause; stands = b.stands; lies = inside_trans b.clause E C b.lies parts.0 }
      ]

-- in each clause lies one that is not covered, or one of those before
below_uncovered : (before Cs : List (List ℕ)) (X : List ℕ) → Contains Cs X → Below (before ++ uncovered before Cs) X
below_uncovered before [] X (k, lt, at) = absurd (omega arith)
below_uncovered before (C ∷ Cs) X (zero, lt, at) =
    subst (Below (before ++ uncovered before (C ∷ Cs))) at
    (uncovered_both before C Cs (λ Ds. Below (before ++ Ds) C)
    (below_covered before C (behind before C Cs) Cs (below_uncovered (before ++ C ∷ []) Cs))
    (λ _. record {
      clause = C;
      stands = Contains-append_right before (C ∷ behind before C Cs) C (has_here C (behind before C Cs));
      lies = inside_refl C;
    }))
below_uncovered before (C ∷ Cs) X (suc k, lt, at) =
    let ih = below_uncovered (before ++ C ∷ []) Cs in
    let here = ih X (k, omega arith, at) in
    uncovered_both before C Cs (λ Ds. Below (before ++ Ds) X)
    (λ t. below_without before C (behind before C Cs) X
    (λ in'. let b = below_covered before C (behind before C Cs) Cs ih t in record { clause = b.clause; stands = b.stands; lies = inside_trans b.clause C X b.lies in' })
    here)
    (λ _. subst (λ Ds. Below Ds X) (append_assoc before (C ∷ []) (behind before C Cs)) here)

-- a plan that makes the clauses that are not covered true makes all true
true_uncovered : (p : List ℕ) (Cs : List (List ℕ)) → all_true p (uncovered [] Cs) ≡ true → all_true p Cs ≡ true
true_uncovered p Cs h =
    every_from (true_in p) Cs
    (λ C stands. let b = below_uncovered [] Cs C stands in inside_true p b.clause C b.lies (every_at (true_in p) (uncovered [] Cs) b.clause h b.stands))

-- neither clause lies in the other
abbrev apart : List ℕ → List ℕ → Bool
apart C D = not (inside C D) && not (inside D C)

-- no clause lies in another one
abbrev Apart : List (List ℕ) → Type 0
Apart [] = Unit {0}
Apart (C ∷ Cs) = (every (apart C) Cs ≡ true) × Apart Cs

-- no clause before lies in one that is not covered
free_uncovered :
    (before Cs : List (List ℕ)) (C : List ℕ) → Contains before C → every (λ D. not (inside C D)) (uncovered before Cs) ≡ true
free_uncovered before [] C stands = refl
free_uncovered before (D ∷ Ds) C stands =
    let ih = free_uncovered (before ++ D ∷ []) Ds C (Contains-append_left before (D ∷ []) C stands) in
    uncovered_both before D Ds (λ Es. every (λ E. not (inside C E)) Es ≡ true) (λ _. ih)
    (λ f. let none = or_parts (any (λ E. inside E D) before) (any (λ E. inside E D && not (inside D E)) Ds) f in
    and_from (not (inside C D)) (every (λ E. not (inside C E)) (behind before D Ds))
    (not_from_false (inside C D) (any_none (λ E. inside E D) before C none.0 stands)) ih)

-- so of those that are not covered none lies in another one: C in no later one, and a later one in C only if C in it
apart_uncovered : (before Cs : List (List ℕ)) → Apart (uncovered before Cs)
apart_uncovered before [] = tt
apart_uncovered before (C ∷ Cs) =
    let ih = apart_uncovered (before ++ C ∷ []) Cs in
    let free = free_uncovered (before ++ C ∷ []) Cs C (Contains-push before C) in
    uncovered_both before C Cs Apart (λ _. ih)
    (λ f. let none = or_parts (any (λ D. inside D C) before) (any (λ D. inside D C && not (inside C D)) Cs) f in
    let weak = every_uncovered (λ D. not (inside D C && not (inside C D))) (before ++ C ∷ []) Cs (every_from (λ D. not (inside D C && not (inside C D))) Cs (λ D stands. not_from_false (inside D C && not (inside C D)) (any_none (λ E. inside E C && not (inside C E)) Cs D none.1 stands))) in (
      every_from (apart C) (behind before C Cs)
          (λ D stands.
          let one = every_at (λ E. not (inside C E)) (behind before C Cs) D free stands in
          let two = every_at (λ E. not (inside E C && not (inside C E))) (behind before C Cs) D weak stands in
          grind (arith, nat_tests)),
      ih,
    ))

-- a clause in which none before it lies, and none behind it, is not covered
not_covered :
    (before : List (List ℕ)) (C : List ℕ) (Cs : List (List ℕ)) → ((D : List ℕ) → Contains before D → inside D C ≡ false)
    → every (apart C) Cs ≡ true → covered before C Cs ≡ false
not_covered before C Cs free h =
    or_from (any (λ D. inside D C) before) (any (λ D. inside D C && not (inside C D)) Cs)
    (none_from (λ D. inside D C) before (λ D stands. both_ways (inside D C) (free D stands)))
    (none_from (λ D. inside D C && not (inside C D)) Cs
    (λ D stands passes.
    let parts = and_parts (not (inside C D)) (not (inside D C)) (every_at (apart C) Cs D h stands) in
    both_ways (inside D C) (not-true (inside D C) parts.1) (and_parts (inside D C) (not (inside C D)) passes).0))

-- where no clause lies in another one, nor one of those before in them, none is covered
uncovered_apart :
    (before Cs : List (List ℕ)) → Apart Cs → ((D : List ℕ) → Contains before D → every (λ C. not (inside D C)) Cs ≡ true)
    → uncovered before Cs ≡ Cs
uncovered_apart before [] h free = refl
uncovered_apart before (C ∷ Cs) h free =
    let parts = λ (D : List ℕ) (stands : Contains before D). and_parts (not (inside D C)) (every (λ E. not (inside D E)) Cs) (free D stands) in
    let out = not_covered before C Cs (λ D stands. not-true (inside D C) (parts D stands).0) h.0 in
    cond-false (covered before C Cs) (behind before C Cs) (C ∷ behind before C Cs) out
    ∙ ap (λ Ds. C ∷ Ds)
    (uncovered_apart (before ++ C ∷ []) Cs h.1
    (λ D stands. elim (Contains-push_cases before C D stands) [
      | inl old ↦ (parts D old).1
      | inr e ↦
          subst (λ B. every (λ E. not (inside B E)) Cs ≡ true) e
          (every_weaker (apart C) (λ E. not (inside C E)) (λ E k. (and_parts (not (inside C E)) (not (inside E C)) k).0) Cs h.0)
    ]))

-- by positions: of two clauses neither lies in the other
apart_at : (Cs : List (List ℕ)) → Apart Cs → (i j : ℕ) → i < j → j < length Cs → apart (get_or Cs i []) (get_or Cs j []) ≡ true
apart_at [] h i j less lt = absurd (omega arith)
apart_at (C ∷ Cs) h zero zero less lt = absurd (omega arith)
apart_at (C ∷ Cs) h zero (suc j) less lt = every_get_d (apart C) Cs j [] h.0 (omega arith)
apart_at (C ∷ Cs) h (suc i) zero less lt = absurd (omega arith)
apart_at (C ∷ Cs) h (suc i) (suc j) less lt = apart_at Cs h.1 i j (omega arith) (omega arith)

no_covered : (Cs : List (List ℕ)) → Apart Cs → NoCovered Cs
no_covered Cs h i j lt-i lt-j differs in' =
    let C = get_or Cs i [] in
    let D = get_or Cs j [] in
    let lies = every_from (λ l. has l D) C (λ l stands. (decides_has l D).1 (in' l stands)) in
    elim (cases_order i j) [
      | inl e ↦ differs e
      | inr (inl less) ↦
          let out = (and_parts (not (inside C D)) (not (inside D C)) (apart_at Cs h i j less lt-j)).0 in
          both_ways (inside C D) (not-true (inside C D) out) lies
      | inr (inr more) ↦
          let out = (and_parts (not (inside D C)) (not (inside C D)) (apart_at Cs h j i more lt-i)).1 in
          both_ways (inside C D) (not-true (inside C D) out) lies
    ]

no_larger : (t : Tab) → NoLarger t (uncover t)
no_larger t =
    record {
      same_last = refl;
      no_more_clauses = length_uncovered [] t.clauses;
      no_more_literals = literals_uncovered [] t.clauses;
    }

-- the three points
points : (t : Tab) → Lawful t → Points cover t
points t ok =
    record {
      table = no_larger_lawful t (uncover t) ok (no_larger t) (every_uncovered (lawful t.last) [] t.clauses ok.each);
      plans = λ p is. is;
      back = λ p is h. true_uncovered p t.clauses h;
      possible = still_possible t (uncovered [] t.clauses) (λ p. every_uncovered (true_in p) [] t.clauses);
      no_larger = no_larger t;
    }

-- a pass takes clauses away
abbrev fewer : Tab → Bool
fewer t = ltb (length (uncover t).clauses) (length t.clauses)

-- as long as a pass takes clauses away it is a step, and else no step is left
goes_on :
    (notes : List (Unit {0})) (t : Tab) → length (uncover t).clauses < length t.clauses
    → cover_next notes t ≡ step tt (uncover t)
unfolding cover_next
goes_on notes t less =
    cond-true (fewer t) (step tt (uncover t)) stop (lt-ltb (length (uncover t).clauses) (length t.clauses) less)

stops :
    (notes : List (Unit {0})) (t : Tab) → length t.clauses ≤ length (uncover t).clauses → cover_next notes t ≡ stop
unfolding cover_next
stops notes t none =
    cond-false (fewer t) (step tt (uncover t)) stop (le-ltb (length (uncover t).clauses) (length t.clauses) none)

safe : Safe cover_rule
unfolding cover_next
safe notes t ok n u e =
    let here = points t ok in
    step_if (GoodStep cover_rule t) (fewer t) tt (uncover t)
    (λ less. record {
      table = here.table;
      no_larger = here.no_larger;
      plans = here.plans;
      back = here.back;
      possible = here.possible;
      falls = ltb-true (length (uncover t).clauses) (length t.clauses) less;
    })
    n u e

-- a second pass takes nothing away
again : (t : Tab) → uncover (uncover t) ≡ uncover t
again t =
    ap (λ Ds. record { last = t.last; clauses = Ds })
    (uncovered_apart [] (uncovered [] t.clauses) (apart_uncovered [] t.clauses) (λ D stands. absurd (has_none D stands)))

-- one pass is a whole run, or none is
once : (t : Tab) → Lawful t → (ran cover_rule t).table ≡ uncover t
once t ok =
    let only = (repetition cover_rule safe t ok).only in
    elim (cases_lt (length (uncover t).clauses) (length t.clauses)) [
      | inl less ↦
          let same = ap (λ u. length u.clauses) (again t) in
          sym (only (tt ∷ []) (uncover t) (goes (goes_on [] t less) (ends (stops (tt ∷ []) (uncover t) (omega arith))))).1
      | inr none ↦
          sym (only [] t (ends (stops [] t none))).1
          ∙ ap (λ Ds. record { last = t.last; clauses = Ds }) (sym (all_uncovered [] t.clauses none))
    ]

pub cover_law : CoverLaw
cover_law =
    record {
      points = points;
      safe = safe;
      repeats = repetition cover_rule safe;
      once = once;
      again = λ t ok. again t;
      ended = λ t ok. no_covered (uncover t).clauses (apart_uncovered [] t.clauses);
    }
