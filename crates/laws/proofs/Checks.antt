-- The checks of a clause: what the computed refusal says, and the way back.
use Rattle.std.proofs.Common.{◌≡◌, ℕ, ◌+◌, ◌<◌, ◌≤◌, true, ◌&&◌, eqb, ltb, leb, List, [], ◌∷◌, ◌++◌, length, get_or, Some, None, Decides, Option, sym, refl, ap, ◌∙◌, subst, inl, inr, arith}
use Rattle.std.specs.Option.{option_map}
use Rattle.std.proofs.lemmas.List.{append_assoc, length-append, length_push, get_or_append_left, get_or_at, get_or_default}
use Rattle.std.proofs.lemmas.List.Elements.{All-get_or}
use Rattle.std.proofs.lemmas.Bool.{leb-true, leb-false, le-leb, lt-leb, ltb-true, ltb-false, lt-ltb, le-ltb, eqb-true, eq-eqb, and_from, cases_Bool, cases_lt, cases_order, both_ways, false_from_ne_true}
use Rattle.std.proofs.lemmas.Bool.Decides.{nat_tests, Decides-and, Decides-ltb, not_from_Decides}
use Rattle.laws.specs.declared.fault.Fault.{Fault}
use Rattle.laws.specs.Faults.{fault}
use Rattle.laws.specs.Lists.{any, place_from, place, or_else}
use Rattle.laws.specs.Literals.{choice, top}
use Rattle.laws.specs.Clauses.{within}
use Rattle.laws.specs.Checks.{Limits, refusal, repeat_from, unless}
use Rattle.laws.specs.Checked.{Sized, LowBefore, Repeats, OnceBefore, Fails, Passes, Checking, Placing}
use Rattle.laws.specs.Checked.Fails.{size, above, again, full, large}
use Rattle.laws.proofs.Options.{no, or_else_none, or_else_some, or_else_skips, or_else_stops, some_or_none, mapped_none, mapped_some, unless_none, unless_some}
use Rattle.laws.proofs.Lists.{First, place_some, decides_any}
use Rattle.laws.proofs.Lawful.{decides_within}

-- where no code is found above the largest, none is
pub within_from_place :
    (n i : ℕ) (codes : List ℕ) → place_from (λ l. ltb (top n) l) i codes ≡ None → within n codes ≡ true
within_from_place n i [] h = refl
within_from_place n i (x ∷ xs) h =
    elim (cases_Bool (ltb (top n) x)) [
      | inl t ↦ grind (arith, nat_tests)
      | inr f ↦ and_from (leb x (top n)) (within n xs) (le-leb x (top n) (ltb-false (top n) x f)) (within_from_place n (i + 1) xs (grind (arith, nat_tests)))
    ]

-- o is the first place below len of which P holds
pub record FirstBy (P : ℕ → Type 0) (len : ℕ) (o : Option ℕ) : Type 0 where
  pub none : o ≡ None → (k : ℕ) → k < len → P k → ⊥
  pub some : (i : ℕ) → o ≡ Some i → (i < len) × P i × ((k : ℕ) → k < i → P k → ⊥)

module _ (P : ℕ → Type 0) (len : ℕ) (o : Option ℕ) (first : FirstBy P len o) where
  is_none : ((k : ℕ) → k < len → P k → ⊥) → o ≡ None
  is_none h =
      elim (some_or_none o) [
        | inl e ↦ e
        | inr k ↦ let at = first.some k.0 k.1 in absurd (h k.0 at.0 at.1)
      ]

  is_some : (i : ℕ) → i < len → P i → ((k : ℕ) → k < i → P k → ⊥) → o ≡ Some i
  is_some i lt here before =
      elim (some_or_none o) [
        | inl e ↦ absurd (first.none e i lt here)
        | inr k ↦
            let at = first.some k.0 k.1 in
            elim (cases_order k.0 i) [
              | inl same ↦ k.1 ∙ ap Some same
              | inr (inl less) ↦ absurd (before k.0 less at.1)
              | inr (inr more) ↦ absurd (at.2 i more here)
            ]
      ]

-- the first code above the largest one
first_above :
    (n : ℕ) (codes : List ℕ) → FirstBy (λ k. top n < get_or codes k 0) (length codes) (place (λ l. ltb (top n) l) codes)
first_above n codes =
    record {
      none = λ e k lt more. let low = All-get_or (λ l. l ≤ top n) codes k 0 lt ((decides_within n codes).0 (within_from_place n 0 codes e)) in omega arith;
      some = λ i e.
          let at = place_some (λ l. ltb (top n) l) 0 0 codes i e in
          let same : at.0 ≡ i = omega (arith, at.1) in
          let here = subst (First (λ l. ltb (top n) l) codes 0) same at.2 in
          (here.inside, ltb-true (top n) (get_or codes i 0) here.here, λ k lt more. let low = ltb-false (top n) (get_or codes k 0) (here.before k lt) in omega arith);
    }

-- none is found exactly if none is
module _ (n : ℕ) (codes : List ℕ) where
  low_not : (j : ℕ) → (top n < get_or codes j 0 → ⊥) → get_or codes j 0 ≤ top n
  low_not j h = elim (cases_lt (top n) (get_or codes j 0)) [ inl more ↦ absurd (h more) | inr low ↦ low ]

  low_from : place (λ l. ltb (top n) l) codes ≡ None → LowBefore n codes (length codes)
  low_from e j lt = low_not j ((first_above n codes).none e j lt)

  no_above : LowBefore n codes (length codes) → place (λ l. ltb (top n) l) codes ≡ None
  no_above low = is_none (λ k. top n < get_or codes k 0) (length codes) _ (first_above n codes) (λ k lt more. let h = low k lt in omega arith)

  some_above :
      (i : ℕ) → i < length codes → LowBefore n codes i → top n < get_or codes i 0
      → place (λ l. ltb (top n) l) codes ≡ Some i
  some_above i lt low more = is_some (λ k. top n < get_or codes k 0) (length codes) _ (first_above n codes) i lt more (λ k below high. let h = low k below in omega arith)

-- a choice that stands among those seen, at some place
seen_says :
    (seen : List ℕ) (x : ℕ) → any (λ y. eqb (choice y) (choice x)) seen ≡ true
    → (j : ℕ) × (j < length seen) × (choice (get_or seen j 0) ≡ choice x)
seen_says seen x h =
    let at = (decides_any (λ y. eqb (choice y) (choice x)) seen).0 h in
    (at.0, at.1, eqb-true (choice (get_or seen at.0 0)) (choice x) (at.2 0))

-- and the way back
seen_from :
    (seen : List ℕ) (x j : ℕ) → j < length seen → choice (get_or seen j 0) ≡ choice x
    → any (λ y. eqb (choice y) (choice x)) seen ≡ true
seen_from seen x j lt e =
    (decides_any (λ y. eqb (choice y) (choice x)) seen).1 (j, lt, λ d. eq-eqb (choice (get_or seen j d)) (choice x) (ap choice (get_or_default seen j d 0 lt) ∙ e))

-- all is what was seen and then x and what follows: the choice of x repeats one exactly if it stands among those seen
module _ (all seen : List ℕ) (x : ℕ) (xs : List ℕ) (whole : seen ++ x ∷ xs ≡ all) where
  here_is : get_or all (length seen) 0 ≡ x
  here_is = sym (ap (λ ys. get_or ys (length seen) 0) whole) ∙ get_or_at seen x xs 0 (length seen) refl

  before_is : (j : ℕ) → j < length seen → get_or all j 0 ≡ get_or seen j 0
  before_is j lt = sym (ap (λ ys. get_or ys j 0) whole) ∙ get_or_append_left seen (x ∷ xs) 0 j lt

  repeats_from : any (λ y. eqb (choice y) (choice x)) seen ≡ true → Repeats all (length seen)
  repeats_from h =
      let at = seen_says seen x h in
      (at.0, at.1, ap choice (before_is at.0 at.1) ∙ at.2 ∙ ap choice (sym here_is))

  repeats_says : Repeats all (length seen) → any (λ y. eqb (choice y) (choice x)) seen ≡ true
  repeats_says r =
      seen_from seen x r.0 r.1 (ap choice (sym (before_is r.0 r.1)) ∙ r.2 ∙ ap choice here_is)

  next_whole : (seen ++ x ∷ []) ++ xs ≡ all
  next_whole = append_assoc seen (x ∷ []) xs ∙ whole

repeat_none :
    (all seen : List ℕ) (i : ℕ) (xs : List ℕ) → seen ++ xs ≡ all → length seen ≡ i → repeat_from seen i xs ≡ None
    → (k : ℕ) → i ≤ k → k < length all → Repeats all k → ⊥
repeat_none all seen i [] whole long none k low lt r = omega (arith, length-append seen [], ap length whole)
repeat_none all seen i (x ∷ xs) whole long none k low lt r =
    elim (cases_Bool (any (λ y. eqb (choice y) (choice x)) seen)) [
      | inl t ↦ no (grind (arith, nat_tests))
      | inr f ↦
          elim (cases_order i k) [
            | inl same ↦ both_ways (any (λ y. eqb (choice y) (choice x)) seen) f (repeats_says all seen x xs whole (subst (Repeats all) (sym same ∙ sym long) r))
            | inr (inl less) ↦ repeat_none all (seen ++ x ∷ []) (i + 1) xs (next_whole all seen x xs whole) (length_push seen x ∙ ap (λ m. m + 1) long) (grind (arith, nat_tests)) k (omega arith) lt r
            | inr (inr more) ↦ omega arith
          ]
    ]

repeat_some :
    (all seen : List ℕ) (i : ℕ) (xs : List ℕ) → seen ++ xs ≡ all → length seen ≡ i → (k : ℕ)
    → repeat_from seen i xs ≡ Some k
    → (i ≤ k) × (k < length all) × Repeats all k × ((m : ℕ) → i ≤ m → m < k → Repeats all m → ⊥)
repeat_some all seen i [] whole long k e = no (cc)
repeat_some all seen i (x ∷ xs) whole long k e =
    elim (cases_Bool (any (λ y. eqb (choice y) (choice x)) seen)) [
      | inl t ↦
          let same : k ≡ i = grind (arith, nat_tests) in
          (omega arith, omega (arith, length-append seen (x ∷ xs), ap length whole), subst (Repeats all) (long ∙ sym same) (repeats_from all seen x xs whole t), λ m low lt r. omega arith)
      | inr f ↦
          let ih = repeat_some all (seen ++ x ∷ []) (i + 1) xs (next_whole all seen x xs whole) (length_push seen x ∙ ap (λ m. m + 1) long) k (grind (arith, nat_tests)) in (
            omega (arith, ih.0),
            ih.1,
            ih.2,
            λ m low lt r.
                elim (cases_order i m) [
                  | inl same ↦ both_ways (any (λ y. eqb (choice y) (choice x)) seen) f (repeats_says all seen x xs whole (subst (Repeats all) (sym same ∙ sym long) r))
                  | inr (inl less) ↦ ih.3 m (omega arith) lt r
                  | inr (inr more) ↦ omega arith
                ],
          )
    ]

-- the first code whose choice stood before
first_again : (codes : List ℕ) → FirstBy (Repeats codes) (length codes) (repeat_from [] 0 codes)
first_again codes =
    record {
      none = λ e k lt. repeat_none codes [] 0 codes refl refl e k (omega arith) lt;
      some = λ i e.
          let at = repeat_some codes [] 0 codes refl refl i e in
          (at.1, at.2, λ k lt. at.3 k (omega arith) lt);
    }

-- a clause has 1 to 256 codes, by computing and in words
decides_sized : (codes : List ℕ) → Decides (ltb 0 (length codes) && leb (length codes) 256) (Sized codes)
decides_sized codes =
    Decides-and (ltb 0 (length codes)) (leb (length codes) 256) (Decides-ltb 0 (length codes)) (leb-true (length codes) 256, le-leb (length codes) 256)

module _ (most : Limits) (n clauses literals : ℕ) (codes : List ℕ) where
  -- the five checks
  abbrev check11 : Option Fault
  check11 = unless (ltb 0 (length codes) && leb (length codes) 256) (fault most.layer 11 0)

  abbrev check12 : Option Fault
  check12 = option_map (fault most.layer 12) (place (λ l. ltb (top n) l) codes)

  abbrev check13 : Option Fault
  check13 = option_map (fault most.layer 13) (repeat_from [] 0 codes)

  abbrev check14 : Option Fault
  check14 = unless (ltb clauses most.clauses) (fault most.layer 14 0)

  abbrev check15 : Option Fault
  check15 = unless (leb (literals + length codes) most.literals) (fault most.layer 15 0)

  -- what the checks say one by one, where none refuses
  pub record Passed : Type 0 where
    pub sized : (ltb 0 (length codes) && leb (length codes) 256) ≡ true
    pub each : place (λ l. ltb (top n) l) codes ≡ None
    pub once : repeat_from [] 0 codes ≡ None
    pub few : ltb clauses most.clauses ≡ true
    pub small : leb (literals + length codes) most.literals ≡ true

  pub passed : refusal most n clauses literals codes ≡ None → Passed
  passed none =
      let a = or_else_none check11 _ none in
      let b = or_else_none check12 _ a.1 in
      let c = or_else_none check13 _ b.1 in
      let d = or_else_none check14 _ c.1 in
      record {
        sized = unless_none _ _ a.0;
        each = mapped_none _ _ b.0;
        once = mapped_none _ _ c.0;
        few = unless_none _ _ d.0;
        small = unless_none _ _ d.1;
      }

  pub passes_from : refusal most n clauses literals codes ≡ None → Passes most n clauses literals codes
  passes_from none =
      let ok = passed none in
      record {
        sized = (decides_sized codes).0 ok.sized;
        low = low_from n codes ok.each;
        once = (first_again codes).none ok.once;
        few = ltb-true clauses most.clauses ok.few;
        small = leb-true (literals + length codes) most.literals ok.small;
      }

  -- the way over each check that passes
  skip11 :
      Sized codes → refusal most n clauses literals codes ≡ or_else check12 (or_else check13 (or_else check14 check15))
  skip11 h = or_else_skips check11 _ (ap (λ b. unless b (fault most.layer 11 0)) ((decides_sized codes).1 h))

  skip12 :
      Sized codes → LowBefore n codes (length codes)
      → refusal most n clauses literals codes ≡ or_else check13 (or_else check14 check15)
  skip12 h low = skip11 h ∙ or_else_skips check12 _ (ap (option_map (fault most.layer 12)) (no_above n codes low))

  skip13 :
      Sized codes → LowBefore n codes (length codes) → OnceBefore codes (length codes)
      → refusal most n clauses literals codes ≡ or_else check14 check15
  skip13 h low once = skip12 h low ∙ or_else_skips check13 _ (ap (option_map (fault most.layer 13)) (is_none (Repeats codes) (length codes) _ (first_again codes) once))

  skip14 :
      Sized codes → LowBefore n codes (length codes) → OnceBefore codes (length codes) → clauses < most.clauses
      → refusal most n clauses literals codes ≡ check15
  skip14 h low once few = skip13 h low once ∙ or_else_skips check14 _ (ap (λ b. unless b (fault most.layer 14 0)) (lt-ltb clauses most.clauses few))

  pub none_from : Passes most n clauses literals codes → refusal most n clauses literals codes ≡ None
  none_from ok =
      skip14 ok.sized ok.low ok.once ok.few
      ∙ ap (λ b. unless b (fault most.layer 15 0)) (le-leb (literals + length codes) most.literals ok.small)

  -- the first check that fails is the one that refuses
  pub some_from :
      {number place : ℕ} → Fails most n clauses literals codes number place
      → refusal most n clauses literals codes ≡ Some (fault most.layer number place)
  some_from (size h) =
      or_else_stops check11 _ _ (ap (λ b. unless b (fault most.layer 11 0)) (false_from_ne_true _ (λ t. h ((decides_sized codes).0 t))))
  some_from (above i h lt low more) =
      skip11 h ∙ or_else_stops check12 _ _ (ap (option_map (fault most.layer 12)) (some_above n codes i lt low more))
  some_from (again i h low lt once r) =
      skip12 h low ∙ or_else_stops check13 _ _ (ap (option_map (fault most.layer 13)) (is_some (Repeats codes) (length codes) _ (first_again codes) i lt r once))
  some_from (full h low once many) =
      skip13 h low once ∙ or_else_stops check14 _ _ (ap (λ b. unless b (fault most.layer 14 0)) (le-ltb clauses most.clauses many))
  some_from (large h low once few many) =
      skip14 h low once few ∙ ap (λ b. unless b (fault most.layer 15 0)) (lt-leb (literals + length codes) most.literals many)

  -- a refusal is the fault of the first check that fails
  pub fails_from :
      (f : Fault) → refusal most n clauses literals codes ≡ Some f
      → (number place : ℕ) × (f ≡ fault most.layer number place) × Fails most n clauses literals codes number place
  fails_from f e =
      elim (or_else_some check11 _ f e) [
        | inl here ↦
            let got = unless_some _ _ f here in
            (11, 0, got.1, size (not_from_Decides _ (decides_sized codes) got.0))
        | inr past11 ↦
            let h = (decides_sized codes).0 (unless_none _ _ past11.0) in
            elim (or_else_some check12 _ f past11.1) [
              | inl here ↦
                  let got = mapped_some _ _ f here in
                  let at = (first_above n codes).some got.0 got.1 in
                  (12, got.0, got.2, above got.0 h at.0 (λ j lt. low_not n codes j (at.2 j lt)) at.1)
              | inr past12 ↦
                  let low = low_from n codes (mapped_none _ _ past12.0) in
                  elim (or_else_some check13 _ f past12.1) [
                    | inl here ↦
                        let got = mapped_some _ _ f here in
                        let at = (first_again codes).some got.0 got.1 in
                        (13, got.0, got.2, again got.0 h low at.0 at.2 at.1)
                    | inr past13 ↦
                        let once = (first_again codes).none (mapped_none _ _ past13.0) in
                        elim (or_else_some check14 _ f past13.1) [
                          | inl here ↦
                              let got = unless_some _ _ f here in
                              (14, 0, got.1, full h low once (ltb-false clauses most.clauses got.0))
                          | inr past14 ↦
                              let few = ltb-true clauses most.clauses (unless_none _ _ past14.0) in
                              let got = unless_some _ _ f past14.1 in
                              (15, 0, got.1, large h low once few (leb-false (literals + length codes) most.literals got.0))
                        ]
                  ]
            ]
      ]

  -- the place of the first check that fails is below 256
  pub fails_place : {number place : ℕ} → Fails most n clauses literals codes number place → place < 256
  fails_place (size h) = omega arith
  fails_place (above i h lt low more) = omega arith
  fails_place (again i h low lt once r) = omega arith
  fails_place (full h low once many) = omega arith
  fails_place (large h low once few many) = omega arith

pub checking : Checking
checking most n clauses literals codes =
    record {
      refuses = λ f.
          (fails_from most n clauses literals codes f, λ w. some_from most n clauses literals codes w.3 ∙ ap Some (sym w.2));
      accepts = (passes_from most n clauses literals codes, none_from most n clauses literals codes);
    }

pub placing : Placing
placing most n clauses literals codes f e =
    let got = fails_from most n clauses literals codes f e in
    omega (arith, ap (λ g. g.place) got.2, fails_place most n clauses literals codes got.3)
