-- The lister: it finds the first plan in counting order, and none only if there is none.
use Rattle.std.proofs.Common.{◌≡◌, ℕ, zero, suc, ◌+◌, ◌*◌, ◌/◌, ◌%◌, ◌^◌, ◌<◌, ◌≤◌, Bool, true, false, eqb, leb, ◌↔◌, List, [], ◌∷◌, length, get_or, replicate, All, Contains, filter, sym, refl, ap, ◌∙◌, subst, inl, inr, div-one, arith}
use native.Mathlib.Nat.{pow-succ', div-div-eq-div-mul}
use Rattle.std.specs.List.{range_with_len}
use Rattle.std.proofs.lemmas.List.FromFn.{length-range_with_len, get_or-range_with_len}
use Rattle.std.proofs.lemmas.List.Elements.{All-get_or, All-head, All-tail, All-from_get_or, All-contains, All-contains_itself, All-filter, All-set, All-weaker}
use Rattle.std.proofs.lemmas.List.{length-set, get_or-set_same, get_or-set_other, get_or_past}
use Rattle.std.proofs.lemmas.Bool.{cases_lt, cases_order, cond_both, both_ways, eq-eqb, leb-true, leb-false, or_left, or_right}
use Rattle.std.proofs.lemmas.Bool.Decides.{nat_tests}
use Rattle.laws.specs.Clauses.{true_in, all_true}
use Rattle.laws.specs.Faults.{fault}
use Rattle.laws.specs.Lists.{any}
use Rattle.laws.specs.Lister.{numbered, plan_no, tries, lister, FirstPlan, NoPlan, ListsOf, Bits, ListerLaw}
use Rattle.laws.specs.Literals.{choice, holds}
use Rattle.laws.specs.Occurring.{occurring, occurring_count}
use Rattle.laws.specs.Outcomes.{Outcome}
use Rattle.laws.specs.Outcomes.Outcome.{planned, never, refused}
use Rattle.laws.specs.Plans.{PlanOf, Possible}
use Rattle.laws.specs.Solvers.{RightFor}
use Rattle.laws.specs.Splitter.{blank}
use Rattle.laws.specs.Tables.{Tab, Lawful, occurs_in}
use Rattle.laws.proofs.Counting.{has_counting, counting_has}
use Rattle.laws.proofs.Kept.{has_none, has_here, has_later, has_cases, kept_stands, stands_kept}
use Rattle.laws.proofs.Occurring.{occurs_below}
use Rattle.laws.proofs.Options.{no}
use Rattle.laws.proofs.Solvers.{right_planned, right_never, right_refused}
use Rattle.laws.proofs.Splitter.{blank_plan}

-- each number is below all behind it
abbrev Rises : List ℕ → Type 0
Rises [] = Unit {0}
Rises (c ∷ cs) = All (λ d. c < d) cs × Rises cs

-- those kept of numbers counted upwards rise
counting_above : (a n : ℕ) → All (λ d. a ≤ d) (range_with_len a n)
counting_above a n = All-from_get_or (λ d. a ≤ d) (range_with_len a n) 0 (λ i lt. omega (arith, get_or-range_with_len a n i 0 (omega (arith, length-range_with_len a n))))

rises_kept : (f : ℕ → Bool) (a n : ℕ) → Rises (filter f (range_with_len a n))
rises_kept f a zero = tt
rises_kept f a (suc n) =
    let behind = filter f (range_with_len (a + 1) n) in
    let above = All-filter f (λ d. a + 1 ≤ d) (range_with_len (a + 1) n) (counting_above (a + 1) n) in
    cond_both (f a) (a ∷ behind) behind Rises
    (λ _. (All-weaker (λ d. a + 1 ≤ d) (λ d. a < d) (λ d h. omega arith) behind above, rises_kept f (a + 1) n))
    (λ _. rises_kept f (a + 1) n)

-- the occurring choices rise and are choices of the table, and each that occurs is among them
rises_occurring : (n : ℕ) (Cs : List (List ℕ)) → Rises (occurring n Cs)
rises_occurring n Cs = rises_kept (λ c. occurs_in c Cs) 0 (n + 1)

occurring_low : (n : ℕ) (Cs : List (List ℕ)) → All (λ c. c < n + 1) (occurring n Cs)
occurring_low n Cs =
    All-filter (λ c. occurs_in c Cs) (λ c. c < n + 1) (range_with_len 0 (n + 1))
    (All-weaker (Contains (range_with_len 0 (n + 1))) (λ c. c < n + 1) (counting_has (n + 1)) (range_with_len 0 (n + 1)) (All-contains_itself (range_with_len 0 (n + 1))))

occurring_has : (t : Tab) (c : ℕ) → Lawful t → occurs_in c t.clauses ≡ true → Contains (occurring t.last t.clauses) c
occurring_has t c ok h =
    stands_kept (λ d. occurs_in d t.clauses) (range_with_len 0 (t.last + 1)) c (has_counting (t.last + 1) c (omega (arith, occurs_below t c ok h))) h

-- writing bits leaves the length, and plans plans
length_numbered : (m : ℕ) (cs p : List ℕ) → length (numbered m cs p) ≡ length p
length_numbered m [] p = refl
length_numbered m (c ∷ cs) p = length-set (numbered (m / 2) cs p) c (m % 2) ∙ length_numbered (m / 2) cs p

numbered_bytes : (m : ℕ) (cs p : List ℕ) → All (λ b. b ≤ 1) p → All (λ b. b ≤ 1) (numbered m cs p)
numbered_bytes m [] p h = h
numbered_bytes m (c ∷ cs) p h = All-set (λ b. b ≤ 1) (numbered (m / 2) cs p) c (m % 2) (omega arith) (numbered_bytes (m / 2) cs p h)

plan_no_plan : (t : Tab) (m : ℕ) → PlanOf t.last (plan_no t m)
plan_no_plan t m =
    let cs = occurring t.last t.clauses in
    let is = blank_plan t.last in
    record { long = length_numbered m cs (blank t.last) ∙ is.long; bytes = numbered_bytes m cs (blank t.last) is.bytes }

-- the bit of each choice, by its rank
numbered_bits :
    (m : ℕ) (cs p : List ℕ) (i : ℕ) → Rises cs → All (λ c. c < length p) cs → i < length cs
    → get_or (numbered m cs p) (get_or cs i 0) 0 ≡ (m / 2 ^ i) % 2
numbered_bits m [] p i up low lt = absurd (omega arith)
numbered_bits m (c ∷ cs) p zero up low lt =
    get_or-set_same (numbered (m / 2) cs p) c (m % 2) 0 (omega (arith, All-head (λ d. d < length p) c cs low, length_numbered (m / 2) cs p))
    ∙ ap (λ x. x % 2) (sym (div-one m))
numbered_bits m (c ∷ cs) p (suc i) up low lt =
    let in' : i < length cs = omega arith in
    let above = All-get_or (λ d. c < d) cs i 0 in' up.0 in
    get_or-set_other (numbered (m / 2) cs p) c (get_or cs i 0) (m % 2) 0 (λ e. omega arith)
    ∙ numbered_bits (m / 2) cs p i up.1 (All-tail (λ d. d < length p) c cs low) in'
    ∙ ap (λ x. x % 2) (div-div-eq-div-mul m 2 (2 ^ i) ∙ ap (λ x. m / x) (sym (pow-succ' 2 i)))

low_in : (t : Tab) → All (λ c. c < length (blank t.last)) (occurring t.last t.clauses)
low_in t =
    subst (λ n. All (λ c. c < n) (occurring t.last t.clauses)) (sym (blank_plan t.last).long) (occurring_low t.last t.clauses)

bits : (t : Tab) → Bits t
bits t m i lt =
    numbered_bits m (occurring t.last t.clauses) (blank t.last) i (rises_occurring t.last t.clauses) (low_in t) lt

-- choices that are not written keep their byte
numbered_other : (m : ℕ) (cs p : List ℕ) (d : ℕ) → (Contains cs d → ⊥) → get_or (numbered m cs p) d 0 ≡ get_or p d 0
numbered_other m [] p d new = refl
numbered_other m (c ∷ cs) p d new =
    get_or-set_other (numbered (m / 2) cs p) c d (m % 2) 0 (λ e. new (subst (Contains (c ∷ cs)) (sym e) (has_here c cs)))
    ∙ numbered_other (m / 2) cs p d (λ later. new (has_later c cs d later))

zero_byte : (k d : ℕ) → get_or {A = ℕ} (replicate k 0) d 0 ≡ 0
zero_byte zero d = refl
zero_byte (suc k) zero = refl
zero_byte (suc k) (suc d) = zero_byte k d

-- so a choice that does not occur is left out
left_out : (t : Tab) (m c : ℕ) → occurs_in c t.clauses ≡ false → get_or (plan_no t m) c 0 ≡ 0
left_out t m c f =
    numbered_other m (occurring t.last t.clauses) (blank t.last) c
    (λ stands. both_ways (occurs_in c t.clauses) f (kept_stands (λ d. occurs_in d t.clauses) (range_with_len 0 (t.last + 1)) c stands).1)
    ∙ zero_byte (t.last + 1) c

-- the number whose bits are a plan's bytes at the choices
abbrev number_of : List ℕ → List ℕ → ℕ
number_of q [] = 0
number_of q (c ∷ cs) = get_or q c 0 + 2 * number_of q cs

byte_low : (q : List ℕ) (c : ℕ) → All (λ b. b ≤ 1) q → get_or q c 0 ≤ 1
byte_low q c h =
    elim (cases_lt c (length q)) [
      | inl in' ↦ All-get_or (λ b. b ≤ 1) q c 0 in' h
      | inr past ↦ omega (arith, get_or_past q c 0 past)
    ]

number_below : (q cs : List ℕ) → All (λ b. b ≤ 1) q → number_of q cs < 2 ^ length cs
number_below q [] h = omega arith
number_below q (c ∷ cs) h = omega (arith, pow-succ' 2 (length cs), number_below q cs h, byte_low q c h)

-- written, it is the plan at the choices
number_agrees :
    (q cs p : List ℕ) → All (λ b. b ≤ 1) q → Rises cs → All (λ c. c < length p) cs → (d : ℕ) → Contains cs d
    → get_or (numbered (number_of q cs) cs p) d 0 ≡ get_or q d 0
number_agrees q [] p h up low d stands = absurd (has_none d stands)
number_agrees q (c ∷ cs) p h up low d stands =
    let byte = byte_low q c h in
    let m = number_of q (c ∷ cs) in
    let bit : m % 2 ≡ get_or q c 0 = omega arith in
    let rest : m / 2 ≡ number_of q cs = omega arith in
    elim (has_cases c cs d stands) [
      | inl same ↦
          subst (λ x. get_or (numbered m (c ∷ cs) p) x 0 ≡ get_or q x 0) same
          (get_or-set_same (numbered (m / 2) cs p) c (m % 2) 0 (omega (arith, All-head (λ x. x < length p) c cs low, length_numbered (m / 2) cs p)) ∙ bit)
      | inr later ↦
          let above = All-contains (λ x. c < x) cs d up.0 later in
          get_or-set_other (numbered (m / 2) cs p) c d (m % 2) 0 (λ e. omega arith)
          ∙ ap (λ x. get_or (numbered x cs p) d 0) rest
          ∙ number_agrees q cs p h up.1 (All-tail (λ x. x < length p) c cs low) d later
    ]

-- plans that agree on the choices that occur make the same clauses true
module _ (p q : List ℕ) where
  same_holds : (l : ℕ) → get_or p (choice l) 0 ≡ get_or q (choice l) 0 → holds p l ≡ holds q l
  same_holds l e = grind (arith, nat_tests)

  same_true :
      (C : List ℕ) → ((c : ℕ) → any (λ l. eqb (choice l) c) C ≡ true → get_or p c 0 ≡ get_or q c 0) → true_in p C ≡ true_in q C
  same_true [] h = refl
  same_true (l ∷ C) h =
      let here = same_holds l (h (choice l) (or_left (eqb (choice l) (choice l)) (any (λ k. eqb (choice k) (choice l)) C) (eq-eqb (choice l) (choice l) refl))) in
      let ih = same_true C (λ c k. h c (or_right (eqb (choice l) c) (any (λ k. eqb (choice k) c) C) k)) in
      cc

  same_all_true :
      (Cs : List (List ℕ)) → ((c : ℕ) → occurs_in c Cs ≡ true → get_or p c 0 ≡ get_or q c 0) → all_true p Cs ≡ all_true q Cs
  same_all_true [] h = refl
  same_all_true (C ∷ Cs) h =
      let here = same_true C (λ c k. h c (or_left (any (λ l. eqb (choice l) c) C) (occurs_in c Cs) k)) in
      let ih = same_all_true Cs (λ c k. h c (or_right (any (λ l. eqb (choice l) c) C) (occurs_in c Cs) k)) in
      cc

-- if some plan makes the table true, some plan in counting order does
some_number :
    (t : Tab) → Lawful t → Possible t → (m : ℕ) × (m < 2 ^ occurring_count t) × (all_true (plan_no t m) t.clauses ≡ true)
some_number t ok q =
    let cs = occurring t.last t.clauses in
    let m = number_of q.plan cs in
    let agrees = number_agrees q.plan cs (blank t.last) q.is_plan.bytes (rises_occurring t.last t.clauses) (low_in t) in
    (m, number_below q.plan cs q.is_plan.bytes, same_all_true (plan_no t m) q.plan t.clauses (λ c h. agrees c (occurring_has t c ok h)) ∙ q.keeps)

-- what trying k plans from number m on gives: the first that makes the table true, or none
data Tries (t : Tab) (k m : ℕ) : Outcome → Type 0 where
  first :
      (n : ℕ) → m ≤ n → n < m + k → all_true (plan_no t n) t.clauses ≡ true
      → ((j : ℕ) → m ≤ j → j < n → all_true (plan_no t j) t.clauses ≡ false)
      → Tries t k m (planned (plan_no t n) (n + 1))
  no_more :
      (w : ℕ) → w ≡ m + k → ((j : ℕ) → m ≤ j → j < m + k → all_true (plan_no t j) t.clauses ≡ false)
      → Tries t k m (never w)

-- what fails at m and from m + 1 on fails from m on
fails_from :
    (t : Tab) (m n : ℕ) → all_true (plan_no t m) t.clauses ≡ false
    → ((j : ℕ) → m + 1 ≤ j → j < n → all_true (plan_no t j) t.clauses ≡ false)
    → (j : ℕ) → m ≤ j → j < n → all_true (plan_no t j) t.clauses ≡ false
fails_from t m n f later j low lt =
    elim (cases_lt m j) [
      | inl less ↦ later j (omega arith) lt
      | inr le ↦ let same : m ≡ j = omega arith in subst (λ i. all_true (plan_no t i) t.clauses ≡ false) same f
    ]

tries_next :
    (t : Tab) (k m : ℕ) {o : Outcome} → all_true (plan_no t m) t.clauses ≡ false → Tries t k (m + 1) o
    → Tries t (suc k) m o
tries_next t k m f (first n low lt keeps before) = first n (omega arith) (omega arith) keeps (fails_from t m n f before)
tries_next t k m f (no_more w is after) =
    no_more w (omega arith) (fails_from t m (m + suc k) f (λ j low lt. after j low (omega arith)))

tries_says : (t : Tab) (k m : ℕ) → Tries t k m (tries k m t)
unfolding tries
tries_says t zero m = no_more m (omega arith) (λ j low lt. absurd (omega arith))
tries_says t (suc k) m =
    cond_both (all_true (plan_no t m) t.clauses) (planned (plan_no t m) (m + 1)) (tries k (m + 1) t) (Tries t (suc k) m)
    (λ keeps. first m (omega arith) (omega arith) keeps (λ j low lt. absurd (omega arith)))
    (λ f. tries_next t k m f (tries_says t k (m + 1)))

-- the lister's answers
data Answers (t : Tab) : Outcome → Type 0 where
  finds : (m : ℕ) → occurring_count t ≤ 16 → FirstPlan t m → Answers t (planned (plan_no t m) (m + 1))
  ends : (w : ℕ) → w ≡ 2 ^ occurring_count t → occurring_count t ≤ 16 → NoPlan t → Answers t (never w)
  refuses : 16 < occurring_count t → Answers t (refused (fault 3 42 (occurring_count t)))

answers_tried : (t : Tab) {o : Outcome} → occurring_count t ≤ 16 → Tries t (2 ^ occurring_count t) 0 o → Answers t o
answers_tried t few (first n low lt keeps before) =
    finds n few (record { inside = omega arith; keeps = keeps; before = λ j less. before j (omega arith) less })
answers_tried t few (no_more w is after) = ends w (omega arith) few (λ j less. after j (omega arith) (omega arith))

answers : (t : Tab) → Answers t (lister t)
unfolding lister
answers t =
    cond_both (leb (occurring_count t) 16) (tries (2 ^ occurring_count t) 0 t) (refused (fault 3 42 (occurring_count t))) (Answers t)
    (λ h. answers_tried t (leb-true (occurring_count t) 16 h) (tries_says t (2 ^ occurring_count t) 0))
    (λ h. refuses (leb-false (occurring_count t) 16 h))

-- there is only one first plan
first_same : (t : Tab) (m n : ℕ) → FirstPlan t m → FirstPlan t n → m ≡ n
first_same t m n a b =
    elim (cases_order m n) [
      | inl same ↦ same
      | inr (inl less) ↦ absurd (both_ways (all_true (plan_no t m) t.clauses) (b.before m less) a.keeps)
      | inr (inr more) ↦ absurd (both_ways (all_true (plan_no t n) t.clauses) (a.before n more) b.keeps)
    ]

none_first : (t : Tab) (m : ℕ) → NoPlan t → FirstPlan t m → ⊥
none_first t m fail a = both_ways (all_true (plan_no t m) t.clauses) (fail m a.inside) a.keeps

-- which answer is given when, and what each says
module _ (t : Tab) where
  refused_when : {o : Outcome} → Answers t o → (o ≡ refused (fault 3 42 (occurring_count t))) ↔ (16 < occurring_count t)
  refused_when (finds m few a) = (λ e. no (cc), λ many. absurd (omega arith))
  refused_when (ends w is few fail) = (λ e. no (cc), λ many. absurd (omega arith))
  refused_when (refuses many) = (λ e. many, λ h. refl)

  planned_when :
      {o : Outcome} → Answers t o → (m : ℕ) → occurring_count t ≤ 16 → FirstPlan t m → o ≡ planned (plan_no t m) (m + 1)
  planned_when (finds n few a) m le b = ap (λ i. planned (plan_no t i) (i + 1)) (first_same t n m a b)
  planned_when (ends w is few fail) m le b = absurd (none_first t m fail b)
  planned_when (refuses many) m le b = absurd (omega arith)

  never_when : {o : Outcome} → Answers t o → occurring_count t ≤ 16 → NoPlan t → o ≡ never (2 ^ occurring_count t)
  never_when (finds m few a) le fail = absurd (none_first t m fail a)
  never_when (ends w is few fail') le fail = ap never is
  never_when (refuses many) le fail = absurd (omega arith)

  planned_says :
      {o : Outcome} → Answers t o → (p : List ℕ) (w : ℕ) → o ≡ planned p w
      → (m : ℕ) × (p ≡ plan_no t m) × (w ≡ m + 1) × FirstPlan t m
  planned_says (finds m few a) p w e = (m, cc, cc, a)
  planned_says (ends v is few fail) p w e = no (cc)
  planned_says (refuses many) p w e = no (cc)

  never_says : {o : Outcome} → Answers t o → (w : ℕ) → o ≡ never w → (w ≡ 2 ^ occurring_count t) × NoPlan t
  never_says (finds m few a) w e = no (cc)
  never_says (ends v is few fail) w e = (cc, fail)
  never_says (refuses many) w e = no (cc)

  lists : ListsOf t
  lists =
      record {
        refuses = refused_when (answers t);
        finds = planned_when (answers t);
        none = never_when (answers t);
        found = planned_says (answers t);
        found_none = never_says (answers t);
      }

right : (t : Tab) {o : Outcome} → Lawful t → Answers t o → RightFor t o
right t ok (finds m few a) = right_planned t (plan_no t m) (m + 1) (plan_no_plan t m) a.keeps
right t ok (ends w is few fail) =
    right_never t w
    (λ q. let at = some_number t ok q in both_ways (all_true (plan_no t at.0) t.clauses) (fail at.0 at.1) at.2)
right t ok (refuses many) = right_refused t (fault 3 42 (occurring_count t))

pub lister_law : ListerLaw
lister_law =
    record {
      lists = λ t ok. lists t;
      bits = λ t ok. bits t;
      left_out = λ t m c ok. left_out t m c;
      right = λ t ok. right t ok (answers t);
    }
