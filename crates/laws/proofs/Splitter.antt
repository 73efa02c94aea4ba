-- The splitter: its search exists, is unique, and finds a plan exactly if there is one.
use Rattle.std.proofs.Common.{◌≡◌, ℕ, zero, suc, ◌+◌, ◌<◌, ◌≤◌, true, false, ltb, leb, ◌↔◌, List, [], ◌∷◌, length, get_or, Some, None, Contains, Option, sym, refl, ap, ◌∙◌, subst, inl, inr, arith}
use Rattle.std.proofs.lemmas.List.Elements.{All-replicate, Contains-get_or}
use Rattle.std.proofs.lemmas.List.{length-replicate, nil_from_length}
use Rattle.std.proofs.lemmas.Bool.{cases_Bool, cases_lt, cond_both, cond-true, cond-false, both_ways, eqb-true, ltb-true, ltb-false, le-leb, lt-leb, not_from_false}
use Rattle.laws.specs.declared.fault.Fault.{Fault}
use Rattle.laws.specs.Clauses.{true_in, all_true}
use Rattle.laws.specs.Faults.{fault}
use Rattle.laws.specs.Lists.{any}
use Rattle.laws.specs.Literals.{choice, neg, holds, top}
use Rattle.laws.specs.Lone.{lone_in}
use Rattle.laws.specs.Occurring.{occurring_count}
use Rattle.laws.specs.Outcomes.Outcome.{refused}
use Rattle.laws.specs.Plans.{PlanOf, Possible}
use Rattle.laws.specs.Setting.{assign, with_set}
use Rattle.laws.specs.Solvers.{RightFor}
use Rattle.laws.specs.Splitter.{Turn, Found, Searches, TurnsOf, FirstShortest, SplitterLaw, is_empty, shortest_of, lowest_of, split_on, turn, blank, setting, chosen, is_none, found_within, found, splits_of, outcome_of, within_splits, splitter}
use Rattle.laws.specs.Splitter.Turn.{refuted, solved, forced, splits}
use Rattle.laws.specs.Splitter.Found.{plan, none}
use Rattle.laws.specs.Splitter.Searches.{empty_clause, no_clause, lone_clause, split}
use Rattle.laws.specs.Tables.{Tab, Lawful, occurs_in}
use Rattle.laws.proofs.Kept.{has_here, has_none, any_witness, any_from, every_at}
use Rattle.laws.proofs.Lists.{below_cons, decides_has}
use Rattle.laws.proofs.Lone.{lone_stands, lone_holds}
use Rattle.laws.proofs.Negation.{choice_neg, holds_neg}
use Rattle.laws.proofs.Occurring.{literal_low, occurs_from, occurs_below, occurring_falls}
use Rattle.laws.proofs.Options.{no}
use Rattle.laws.proofs.Setting.{set_back, set_possible, assigned_lawful, assign_occurs, assign_gone}
use Rattle.laws.proofs.Solvers.{right_planned, right_never, right_refused}

-- a test finds a clause without literals exactly if one stands among the clauses
empty_stands : (Cs : List (List ℕ)) → any is_empty Cs ≡ true → Contains Cs []
empty_stands Cs h =
    let at = any_witness is_empty Cs h in
    subst (Contains Cs) (nil_from_length at.0 (eqb-true (length at.0) 0 at.2)) at.1

none_empty : (Cs : List (List ℕ)) → any is_empty Cs ≡ false → Contains Cs [] → ⊥
none_empty Cs f stands = both_ways (any is_empty Cs) f (any_from is_empty Cs [] stands refl)

-- S is the first among the shortest clauses
record ShortestOf (Cs : List (List ℕ)) (S : List ℕ) : Type 0 where
  at : ℕ
  inside : at < length Cs
  is : S ≡ get_or Cs at []
  shortest : (j : ℕ) → j < length Cs → length S ≤ length (get_or Cs j [])
  first : (j : ℕ) → j < at → length S < length (get_or Cs j [])

module _ (C D : List ℕ) (Ds : List (List ℕ)) (S : List ℕ) where
  -- it stays that with a clause C in front that is longer than the first
  behind_longer : length D < length C → ShortestOf (D ∷ Ds) S → ShortestOf (C ∷ D ∷ Ds) S
  behind_longer less h =
      let no_longer = h.shortest 0 (omega arith) in
      record {
        at = suc h.at;
        inside = omega arith;
        is = h.is;
        shortest = below_cons (λ j. length S ≤ length (get_or (C ∷ D ∷ Ds) j [])) (length (D ∷ Ds)) (omega arith) h.shortest;
        first = below_cons (λ j. length S < length (get_or (C ∷ D ∷ Ds) j [])) h.at (omega arith) h.first;
      }

  -- and with a clause D behind the first, C, that is no shorter: none is shorter than S, and those before S are longer
  no_shorter :
      length C ≤ length D → ((j : ℕ) → j < length (C ∷ Ds) → length S ≤ length (get_or (C ∷ Ds) j []))
      → (j : ℕ) → j < length (C ∷ D ∷ Ds) → length S ≤ length (get_or (C ∷ D ∷ Ds) j [])
  no_shorter le shortest =
      let no_longer = shortest 0 (omega arith) in
      below_cons (λ j. length S ≤ length (get_or (C ∷ D ∷ Ds) j [])) (length (D ∷ Ds)) no_longer
      (below_cons (λ j. length S ≤ length (get_or (D ∷ Ds) j [])) (length Ds) (omega arith) (λ j less. shortest (suc j) (omega arith)))

  with_second :
      (i : ℕ) → length C ≤ length D → i < length (C ∷ Ds) → S ≡ get_or (C ∷ Ds) i []
      → ((j : ℕ) → j < length (C ∷ Ds) → length S ≤ length (get_or (C ∷ Ds) j []))
      → ((j : ℕ) → j < i → length S < length (get_or (C ∷ Ds) j []))
      → ShortestOf (C ∷ D ∷ Ds) S
  with_second zero le lt is shortest first =
      record {
        at = 0;
        inside = omega arith;
        is = is;
        shortest = no_shorter le shortest;
        first = λ j less. absurd (omega arith);
      }
  with_second (suc i) le lt is shortest first =
      let longer = first 0 (omega arith) in
      record {
        at = suc (suc i);
        inside = omega arith;
        is = is;
        shortest = no_shorter le shortest;
        first =
            below_cons (λ j. length S < length (get_or (C ∷ D ∷ Ds) j [])) (suc i) longer
            (below_cons (λ j. length S < length (get_or (D ∷ Ds) j [])) i (omega arith) (λ j less. first (suc j) (omega arith)));
      }

shortest_of_lem : (C : List ℕ) (Cs : List (List ℕ)) → ShortestOf (C ∷ Cs) (shortest_of C Cs)
shortest_of_lem C [] =
    record {
      at = 0;
      inside = omega arith;
      is = refl;
      shortest = below_cons (λ j. length C ≤ length (get_or (C ∷ []) j [])) 0 (omega arith) (λ j less. absurd (omega arith));
      first = λ j less. absurd (omega arith);
    }
shortest_of_lem C (D ∷ Ds) =
    cond_both (ltb (length D) (length C)) (shortest_of D Ds) (shortest_of C Ds) (ShortestOf (C ∷ D ∷ Ds))
    (λ t. behind_longer C D Ds (shortest_of D Ds) (ltb-true (length D) (length C) t) (shortest_of_lem D Ds))
    (λ f. let h = shortest_of_lem C Ds in
    with_second C D Ds (shortest_of C Ds) h.at (ltb-false (length D) (length C) f) h.inside h.is h.shortest h.first)

-- what is split on is its lowest literal, which stands in it unless it is empty
shortest : (Cs : List (List ℕ)) → (Cs ≡ [] → ⊥) → FirstShortest Cs (split_on Cs)
shortest [] some = absurd (some refl)
shortest (C ∷ Cs) some =
    let h = shortest_of_lem C Cs in
    record {
      at = h.at;
      inside = h.inside;
      shortest = λ j lt. subst (λ S. length S ≤ length (get_or (C ∷ Cs) j [])) h.is (h.shortest j lt);
      first = λ j lt. subst (λ S. length S < length (get_or (C ∷ Cs) j [])) h.is (h.first j lt);
      lowest = ap lowest_of h.is;
    }

lowest_stands : (C : List ℕ) → (C ≡ [] → ⊥) → Contains C (lowest_of C)
lowest_stands [] h = absurd (h refl)
lowest_stands (l ∷ C) h = has_here l C

split_on_stands :
    (Cs : List (List ℕ)) → (Cs ≡ [] → ⊥) → (Contains Cs [] → ⊥) → (C : List ℕ) × Contains Cs C × Contains C (split_on Cs)
split_on_stands Cs some full =
    let h = shortest Cs some in
    let C = get_or Cs h.at [] in
    let stands = Contains-get_or Cs h.at [] h.inside in
    (C, stands, subst (Contains C) (sym h.lowest) (lowest_stands C (λ e. full (subst (Contains Cs) e stands))))

-- what each turn says of the clauses
data Says (Cs : List (List ℕ)) : Turn → Type 0 where
  says_refuted : Contains Cs [] → Says Cs refuted
  says_solved : Cs ≡ [] → Says Cs solved
  says_forced : (w : ℕ) → (Contains Cs [] → ⊥) → lone_in Cs ≡ Some w → Says Cs (forced w)
  says_splits :
      (w : ℕ) → (Contains Cs [] → ⊥) → lone_in Cs ≡ None → (Cs ≡ [] → ⊥) → w ≡ split_on Cs → Says Cs (splits w)

says_lone :
    (Cs : List (List ℕ)) (o : Option ℕ) → lone_in Cs ≡ o → (Contains Cs [] → ⊥) → (Cs ≡ [] → ⊥)
    → Says Cs (elim o [ None ↦ splits (split_on Cs) | Some w ↦ forced w ])
says_lone Cs None e full some = says_splits (split_on Cs) full e some refl
says_lone Cs (Some w) e full some = says_forced w full e

cons_some : (C : List ℕ) (Cs : List (List ℕ)) → ◌≡◌ {A = List (List ℕ)} (C ∷ Cs) [] → ⊥
cons_some C Cs e = no (cc)

says : (Cs : List (List ℕ)) → Says Cs (turn Cs)
unfolding turn
says [] = says_solved refl
says (C ∷ Cs) =
    cond_both (any is_empty (C ∷ Cs)) refuted (elim (lone_in (C ∷ Cs)) [ None ↦ splits (split_on (C ∷ Cs)) | Some w ↦ forced w ]) (Says (C ∷ Cs))
    (λ t. says_refuted (empty_stands (C ∷ Cs) t))
    (λ f. says_lone (C ∷ Cs) (lone_in (C ∷ Cs)) refl (none_empty (C ∷ Cs) f) (cons_some C Cs))

-- and which turn the clauses make
empty_refutes : {Cs : List (List ℕ)} {x : Turn} → Says Cs x → Contains Cs [] → x ≡ refuted
empty_refutes (says_refuted e) h = refl
empty_refutes (says_solved e) h = absurd (subst (λ Cs. Contains Cs [] → ⊥) (sym e) (has_none []) h)
empty_refutes (says_forced w full e) h = absurd (full h)
empty_refutes (says_splits w full e some is) h = absurd (full h)

nothing_solves : {Cs : List (List ℕ)} {x : Turn} → Says Cs x → Cs ≡ [] → x ≡ solved
nothing_solves (says_refuted h) e = absurd (subst (λ Cs. Contains Cs [] → ⊥) (sym e) (has_none []) h)
nothing_solves (says_solved h) e = refl
nothing_solves (says_forced w full h) e = let z : ◌≡◌ {A = Option ℕ} None (Some w) = sym (ap lone_in e) ∙ h in no (cc)
nothing_solves (says_splits w full h some is) e = absurd (some e)

lone_forces : {Cs : List (List ℕ)} {x : Turn} (w : ℕ) → Says Cs x → (Contains Cs [] → ⊥) → lone_in Cs ≡ Some w → x ≡ forced w
lone_forces w (says_refuted h) full e = absurd (full h)
lone_forces w (says_solved h) full e = let z : ◌≡◌ {A = Option ℕ} None (Some w) = sym (ap lone_in h) ∙ e in no (cc)
lone_forces w (says_forced v full' h) full e = let same : v ≡ w = cc in ap forced same
lone_forces w (says_splits v full' h some is) full e = no (cc)

else_splits :
    {Cs : List (List ℕ)} {x : Turn} (w : ℕ) → Says Cs x → (Contains Cs [] → ⊥) → lone_in Cs ≡ None → (Cs ≡ [] → ⊥) → w ≡ split_on Cs
    → x ≡ splits w
else_splits w (says_refuted h) full e some is = absurd (full h)
else_splits w (says_solved h) full e some is = absurd (some h)
else_splits w (says_forced v full' h) full e some is = no (cc)
else_splits w (says_splits v full' h some' is') full e some is = ap splits (is' ∙ sym is)

-- what is known of the clauses at each turn
refuted_says : {Cs : List (List ℕ)} → Says Cs refuted → Contains Cs []
refuted_says (says_refuted h) = h

solved_says : {Cs : List (List ℕ)} → Says Cs solved → Cs ≡ []
solved_says (says_solved h) = h

forced_says : {Cs : List (List ℕ)} {w : ℕ} → Says Cs (forced w) → (Contains Cs [] → ⊥) × (lone_in Cs ≡ Some w)
forced_says (says_forced w full h) = (full, h)

splits_says :
    {Cs : List (List ℕ)} {w : ℕ} → Says Cs (splits w)
    → (Contains Cs [] → ⊥) × (lone_in Cs ≡ None) × (Cs ≡ [] → ⊥) × (w ≡ split_on Cs)
splits_says (says_splits w full h some is) = (full, h, some, is)

at_turn : (Cs : List (List ℕ)) (x : Turn) → turn Cs ≡ x → Says Cs x
at_turn Cs x e = subst (Says Cs) e (says Cs)

turns_of : (Cs : List (List ℕ)) → TurnsOf Cs
turns_of Cs =
    record {
      refutes = (λ e. refuted_says (at_turn Cs refuted e), empty_refutes (says Cs));
      solves = (λ e. solved_says (at_turn Cs solved e), nothing_solves (says Cs));
      forces = λ w. (λ e. forced_says (at_turn Cs (forced w) e), λ h. lone_forces w (says Cs) h.0 h.1);
      splits_when = λ w. (λ e. splits_says (at_turn Cs (splits w) e), λ h. else_splits w (says Cs) h.0 h.1 h.2 h.3);
    }

-- the literal that is set stands in a clause
forced_stands : (Cs : List (List ℕ)) (w : ℕ) → turn Cs ≡ forced w → Contains Cs (w ∷ [])
forced_stands Cs w e = lone_stands Cs w (forced_says (at_turn Cs (forced w) e)).1

split_stands : (Cs : List (List ℕ)) (w : ℕ) → turn Cs ≡ splits w → (C : List ℕ) × Contains Cs C × Contains C w
split_stands Cs w e =
    let h = splits_says (at_turn Cs (splits w) e) in
    let at = split_on_stands Cs h.2 h.0 in
    (at.0, at.1, subst (Contains at.0) (sym h.3) at.2)

-- so it is not above the largest one
forced_low : (t : Tab) (w : ℕ) → Lawful t → turn t.clauses ≡ forced w → w ≤ top t.last
forced_low t w ok e = literal_low t (w ∷ []) w ok (forced_stands t.clauses w e) (has_here w [])

split_low : (t : Tab) (w : ℕ) → Lawful t → turn t.clauses ≡ splits w → w ≤ top t.last
split_low t w ok e = let at = split_stands t.clauses w e in literal_low t at.0 w ok at.1 at.2

-- setting it or its negation leaves fewer choices
set_falls :
    (t : Tab) (C : List ℕ) (v w : ℕ) → Lawful t → Contains t.clauses C → Contains C w → choice v ≡ choice w
    → occurring_count (with_set v t) < occurring_count t
set_falls t C v w ok stands in' same =
    let occurs = occurs_from t.clauses C w stands in' in
    occurring_falls t (with_set v t) (choice w) refl (assign_occurs (v ∷ []) t.clauses) (occurs_below t (choice w) ok occurs) occurs
    (subst (λ c. occurs_in c (assign (v ∷ []) t.clauses) ≡ false) same (assign_gone (v ∷ []) t.clauses v ((decides_has v (v ∷ [])).1 (has_here v []))))

falls_forced :
    (t : Tab) (w : ℕ) → Lawful t → turn t.clauses ≡ forced w → occurring_count (with_set w t) < occurring_count t
falls_forced t w ok e = set_falls t (w ∷ []) w w ok (forced_stands t.clauses w e) (has_here w []) refl

falls_split :
    (t : Tab) (w : ℕ) → Lawful t → turn t.clauses ≡ splits w
    → (occurring_count (with_set w t) < occurring_count t) × (occurring_count (with_set (neg w) t) < occurring_count t)
falls_split t w ok e =
    let at = split_stands t.clauses w e in
    (set_falls t at.0 w w ok at.1 at.2 refl, set_falls t at.0 (neg w) w ok at.1 at.2 (choice_neg w))

-- what the search gives at each turn
abbrev by_turn : ℕ → Tab → Turn → Found
by_turn k t x =
    elim x [
      | refuted ↦ none 0
      | solved ↦ plan (blank t.last) 0
      | forced w ↦ setting w (found_within k (with_set w t))
      | splits w ↦ chosen w (found_within k (with_set w t)) (found_within k (with_set (neg w) t))
    ]

search_step : (k : ℕ) (t : Tab) → found_within (suc k) t ≡ by_turn k t (turn t.clauses)
unfolding found_within
search_step k t = refl

search_at : (k : ℕ) (t : Tab) (x : Turn) → turn t.clauses ≡ x → found_within (suc k) t ≡ by_turn k t x
search_at k t x e = search_step k t ∙ ap (by_turn k t) e

-- the function searches, given more depth than choices occur
searches_turn :
    (k : ℕ) (t : Tab) → ((u : Tab) → Lawful u → occurring_count u < k → Searches u (found_within k u)) → Lawful t
    → occurring_count t < suc k → (x : Turn) → turn t.clauses ≡ x → Searches t (by_turn k t x)
searches_turn k t ih ok lt refuted e = empty_clause e
searches_turn k t ih ok lt solved e = no_clause e
searches_turn k t ih ok lt (forced w) e =
    lone_clause w e (ih (with_set w t) (assigned_lawful (w ∷ []) t ok) (omega (arith, falls_forced t w ok e)))
searches_turn k t ih ok lt (splits w) e =
    let less = falls_split t w ok e in
    split w e (ih (with_set w t) (assigned_lawful (w ∷ []) t ok) (omega (arith, less.0)))
    (λ _. ih (with_set (neg w) t) (assigned_lawful (neg w ∷ []) t ok) (omega (arith, less.1)))

searches_at : (k : ℕ) (t : Tab) → Lawful t → occurring_count t < k → Searches t (found_within k t)
searches_at zero t ok lt = absurd (omega arith)
searches_at (suc k) t ok lt =
    subst (Searches t) (sym (search_step k t)) (searches_turn k t (searches_at k) ok lt (turn t.clauses) refl)

-- the second search counts only where the first found none
chosen_same : (w : ℕ) (a b c : Found) → (is_none a ≡ true → b ≡ c) → chosen w a b ≡ chosen w a c
chosen_same w (plan p k) b c h = refl
chosen_same w (none k) b c h = ap (chosen w (none k)) (h refl)

-- whatever is searched is what the function gives
searches_same : (k : ℕ) (t : Tab) (a : Found) → Searches t a → Lawful t → occurring_count t < k → a ≡ found_within k t
searches_same zero t a s ok lt = absurd (omega arith)
searches_same (suc k) t a (empty_clause e) ok lt = sym (search_at k t refuted e)
searches_same (suc k) t a (no_clause e) ok lt = sym (search_at k t solved e)
searches_same (suc k) t a (lone_clause {a = b} w e s) ok lt =
    ap (setting w) (searches_same k (with_set w t) b s (assigned_lawful (w ∷ []) t ok) (omega (arith, falls_forced t w ok e)))
    ∙ sym (search_at k t (forced w) e)
searches_same (suc k) t a (split {a = b} {b = c} w e s r) ok lt =
    let less = falls_split t w ok e in
    chosen_same w b c (found_within k (with_set (neg w) t)) (λ h. searches_same k (with_set (neg w) t) c (r h) (assigned_lawful (neg w ∷ []) t ok) (omega (arith, less.1)))
    ∙ ap (λ x. chosen w x (found_within k (with_set (neg w) t))) (searches_same k (with_set w t) b s (assigned_lawful (w ∷ []) t ok) (omega (arith, less.0)))
    ∙ sym (search_at k t (splits w) e)

-- what a search owes: its plan is a plan and makes the table true, or no plan does
abbrev Right : Tab → Found → Type 0
Right t (plan p k) = PlanOf t.last p × (all_true p t.clauses ≡ true)
Right t (none k) = Possible t → ⊥

-- the plan that leaves out every choice is a plan
pub blank_plan : (n : ℕ) → PlanOf n (blank n)
blank_plan n = record { long = length-replicate (n + 1) 0; bytes = All-replicate (λ b. b ≤ 1) (n + 1) 0 (omega arith) }

-- with an empty clause no plan makes the table true
no_possible_empty : (t : Tab) → Contains t.clauses [] → Possible t → ⊥
no_possible_empty t stands q =
    both_ways false refl (every_at (true_in q.plan) t.clauses [] q.keeps stands)

-- what is owed with a literal set is owed here: of a literal that each plan makes true, and of one of two
right_setting :
    (t : Tab) (w : ℕ) (a : Found) → w ≤ top t.last → ((q : Possible t) → holds q.plan w ≡ true)
    → Right (with_set w t) a → Right t (setting w a)
right_setting t w (plan p k) low holds' r = set_back t w p low r.0 r.1
right_setting t w (none k) low holds' r = λ q. r (set_possible t w q (holds' q))

right_chosen :
    (t : Tab) (w : ℕ) (a b : Found) → w ≤ top t.last → Right (with_set w t) a
    → (is_none a ≡ true → Right (with_set (neg w) t) b) → Right t (chosen w a b)
right_chosen t w (plan p k) b low r s = set_back t w p low r.0 r.1
right_chosen t w (none k) (plan p m) low r s = let back = s refl in set_back t (neg w) p (omega arith) back.0 back.1
right_chosen t w (none k) (none m) low r s = λ q.
    elim (cases_Bool (holds q.plan w)) [
      | inl h ↦ r (set_possible t w q h)
      | inr f ↦ s refl (set_possible t (neg w) q (holds_neg q.plan w ∙ not_from_false (holds q.plan w) f))
    ]

-- every search does what it owes
right_at : (t : Tab) (a : Found) → Searches t a → Lawful t → Right t a
right_at t a (empty_clause e) ok = no_possible_empty t (refuted_says (at_turn t.clauses refuted e))
right_at t a (no_clause e) ok = (
  blank_plan t.last,
  ap (all_true (blank t.last)) (solved_says (at_turn t.clauses solved e)),
)
right_at t a (lone_clause {a = b} w e s) ok =
    right_setting t w b (forced_low t w ok e) (λ q. lone_holds t.clauses w q.plan (forced_stands t.clauses w e) q.keeps)
    (right_at (with_set w t) b s (assigned_lawful (w ∷ []) t ok))
right_at t a (split {a = b} {b = c} w e s r) ok =
    right_chosen t w b c (split_low t w ok e) (right_at (with_set w t) b s (assigned_lawful (w ∷ []) t ok))
    (λ h. right_at (with_set (neg w) t) c (r h) (assigned_lawful (neg w ∷ []) t ok))

-- the answer of a search is right, within the limit and above it
right_outcome : (t : Tab) (a : Found) → Right t a → RightFor t (outcome_of a)
right_outcome t (plan p k) r = right_planned t p k r.0 r.1
right_outcome t (none k) r = right_never t k r

right_within : (limit left : ℕ) (t : Tab) (a : Found) → Right t a → RightFor t (within_splits limit left a)
right_within limit left t a r =
    cond_both (leb (splits_of a) left) (outcome_of a) (refused (fault 3 41 limit)) (RightFor t)
    (λ _. right_outcome t a r) (λ _. right_refused t (fault 3 41 limit))

-- an answer is no refusal
outcome_answers : (a : Found) (f : Fault) → outcome_of a ≡ refused f → ⊥
outcome_answers (plan p k) f e = no (cc)
outcome_answers (none k) f e = no (cc)

within_answers : (limit left : ℕ) (a : Found) → splits_of a ≤ left → within_splits limit left a ≡ outcome_of a
within_answers limit left a le = cond-true (leb (splits_of a) left) (outcome_of a) (refused (fault 3 41 limit)) (le-leb (splits_of a) left le)

within_refuses : (limit left : ℕ) (a : Found) → (within_splits limit left a ≡ refused (fault 3 41 limit)) ↔ (left < splits_of a)
within_refuses limit left a = (
  λ e.
      elim (cases_lt left (splits_of a)) [
        | inl more ↦ more
        | inr le ↦ absurd (outcome_answers a (fault 3 41 limit) (sym (within_answers limit left a le) ∙ e))
      ],
  λ more. cond-false (leb (splits_of a) left) (outcome_of a) (refused (fault 3 41 limit)) (lt-leb (splits_of a) left more),
)

only : (t : Tab) (a : Found) → Lawful t → Searches t a → a ≡ found t
only t a ok s = searches_same (suc (occurring_count t)) t a s ok (omega arith)

searches : (t : Tab) → Lawful t → Searches t (found t)
searches t ok = searches_at (suc (occurring_count t)) t ok (omega arith)

pub splitter_law : SplitterLaw
splitter_law =
    record {
      turns = turns_of;
      shortest = shortest;
      searches = searches;
      only = only;
      falls_forced = falls_forced;
      falls_split = falls_split;
      refuses = λ limit t a ok s. subst (λ b. (splitter limit t ≡ refused (fault 3 41 limit)) ↔ (limit < splits_of b)) (sym (only t a ok s)) (within_refuses limit limit (found t));
      answers = λ limit t a ok s le. ap (within_splits limit limit) (sym (only t a ok s)) ∙ within_answers limit limit a le;
      right = λ limit t ok. right_within limit limit t (found t) (right_at t (found t) (searches t ok) ok);
    }
