-- Records read back and written back.
use Rattle.std.proofs.Common.{◌≡◌, ℕ, ◌+◌, ◌*◌, ◌/◌, ◌%◌, ◌^◌, ◌<◌, ◌≤◌, Bool, true, false, cond, ◌&&◌, ltb, leb, ◌⊎◌, List, [], ◌∷◌, ◌++◌, length, get_or, drop, Some, None, Ok, Err, All, Option, Result, sym, refl, ap, ◌∙◌, subst, inl, inr, arith, length-drop}
use Rattle.std.specs.Option.{option_map}
use Rattle.std.proofs.lemmas.Nat.{from_be_bytes-to_be_bytes_4, be_bytes_4}
use Rattle.std.proofs.lemmas.List.{drop_all}
use Rattle.std.proofs.lemmas.List.Elements.{All-take, All-drop}
use Rattle.std.proofs.lemmas.Bool.{ltb-true, ltb-false, leb-true, lt-ltb, le-ltb, le-leb, and_from, and_parts}
use Rattle.std.proofs.lemmas.Bool.Decides.{nat_tests}
use Rattle.laws.specs.Outcomes.{Outcome, planned, never, refused}
use Rattle.records.specs.declared.answer.AnswerError.{AnswerError}
use Rattle.records.specs.declared.answer.AnswerError.TheVariants as flaw
use Rattle.records.specs.declared.answer.WriteError.{WriteError}
use Rattle.records.specs.declared.answer.WriteError.TheVariants as reason
use Rattle.records.proofs.Words.{byte_at, two_forth}
use Rattle.records.specs.Answers.{in_fault, fault_in, encode, refusing, and_then, stray, flaw_of, unwritable, head_of, body_in, end_of, decode}
use Rattle.records.specs.Bytes.{in_two, in_four, from_two, from_four, framed}
use Rattle.records.specs.AnswerLaws.{FaultFits, OutcomeFits, RecordOf, AnswerLaws}

-- numbers and their bytes

pub two_back : (n : ℕ) → n < 65536 → n / 256 % 256 * 256 + n % 256 ≡ n
two_back n h = omega arith

pub four_back : (n : ℕ) → n < 2 ^ 32
    → n / 16777216 % 256 * 16777216 + n / 65536 % 256 * 65536 + n / 256 % 256 * 256 + n % 256 ≡ n
four_back n h = from_be_bytes-to_be_bytes_4 n h

-- reading

-- where the checks of head and length pass, bytes stand for what their body stands for
pub whole : (bs : List ℕ) (n : ℕ)
    → n ≡ from_two 1 bs → 3 ≤ length bs → head_of (get_or bs 0 0) n ≡ Ok tt
    → 3 + n ≤ length bs → length bs ≤ 3 + n
    → body_in (get_or bs 0 0) (drop 3 bs) ≡ decode bs
whole bs n e a h b d =
    rw (← e, le-ltb (length bs) 3 a, h, le-ltb (length bs) (3 + n) b, le-ltb (3 + n) (length bs) d)

-- a framed body is read back whole
unframed : (t : ℕ) (bs : List ℕ) → length bs < 65536 → head_of t (length bs) ≡ Ok tt → decode (framed t bs) ≡ body_in t bs
unframed t bs h k =
    sym (whole (framed t bs) (length bs) (sym (two_back (length bs) h)) (omega arith) k (omega arith) (omega arith))

unflawed : (b : Bool) (x : Option ℕ) (e : WriteError)
    → cond b (option_map reason.PlanByte x) (Some e) ≡ None → (b ≡ true) × (x ≡ None)
unflawed true None e h = (refl, refl)
unflawed true (Some i) e h = (refl, cc)
unflawed false x e h = (cc, cc)

-- a plan without a flaw
sound : (bytes : List ℕ) → flaw_of bytes ≡ None → (0 < length bytes) × (length bytes ≤ 256) × (stray bytes ≡ None)
sound bytes h =
    let a = unflawed (ltb 0 (length bytes) && leb (length bytes) 256) (stray bytes) (reason.PlanLength (length bytes)) h in
    let b = and_parts (ltb 0 (length bytes)) (leb (length bytes) 256) a.0 in
    (ltb-true 0 (length bytes) b.0, leb-true (length bytes) 256 b.1, a.1)

-- what is written is read back
pub written_back : (o : Outcome) → OutcomeFits o → unwritable o ≡ None → decode (encode o) ≡ Ok o
written_back (planned bytes n) f u =
    let s = sound bytes u in
    unframed 33 (in_four n ++ bytes) (omega (arith, s.1))
    (ap (λ b. cond b (Ok tt) (Err (flaw.Length (length (in_four n ++ bytes)))))
    (and_from _ _ (le-leb 5 (length (in_four n ++ bytes)) (omega (arith, s.0))) (le-leb (length (in_four n ++ bytes)) 260 (omega (arith, s.1)))))
    ∙ rw (s.2, four_back n f)
written_back (never n) f u = unframed 34 (in_four n) (omega arith) refl ∙ rw (four_back n f)
written_back (refused f) fits u =
    unframed 35 (in_fault f) (omega arith) refl ∙ rw (two_back f.place fits.place_fits, two_back f.offset fits.offset_fits)

-- what an accepted record passed
record Accepted (bs : List ℕ) (o : Outcome) : Type 0 where
  three : 3 ≤ length bs
  head : head_of (get_or bs 0 0) (from_two 1 bs) ≡ Ok tt
  long : length bs ≡ 3 + from_two 1 bs
  body : body_in (get_or bs 0 0) (drop 3 bs) ≡ Ok o

cond_ok : (b : Bool) (e : AnswerError) (r : Result Outcome AnswerError) (o : Outcome)
    → cond b (Err e) r ≡ Ok o → (b ≡ false) × (r ≡ Ok o)
cond_ok true e r o h = (cc, cc)
cond_ok false e r o h = (refl, h)

then_ok : (q : Result (Unit {0}) AnswerError) (r : Result Outcome AnswerError) (o : Outcome)
    → and_then q r ≡ Ok o → (q ≡ Ok tt) × (r ≡ Ok o)
then_ok (Ok _) r o h = (refl, h)
then_ok (Err e) r o h = (cc, cc)

accepted : (bs : List ℕ) (o : Outcome) → decode bs ≡ Ok o → Accepted bs o
accepted bs o h =
    let a = cond_ok (ltb (length bs) 3) flaw.Cut _ o h in
    let b = then_ok (head_of (get_or bs 0 0) (from_two 1 bs)) _ o a.1 in
    let c = cond_ok (ltb (length bs) (end_of bs)) flaw.Cut _ o b.1 in
    let d = cond_ok (ltb (end_of bs) (length bs)) flaw.Trailing _ o c.1 in
    record { three = ltb-false (length bs) 3 a.0; head = b.0; long = omega (arith, ltb-false (length bs) (end_of bs) c.0, ltb-false (end_of bs) (length bs) d.0); body = d.1 }

-- the head that a body of so many bytes has
kinds : (t n : ℕ)
    → head_of t n ≡ Ok tt
    → ((t ≡ 33) × (5 ≤ n) × (n ≤ 260)) ⊎ (((t ≡ 34) × (n ≡ 4)) ⊎ ((t ≡ 35) × (n ≡ 7)))
kinds t n h = grind (arith, nat_tests)

-- four bytes are those of the number that they stand for
four_exact : (bs : List ℕ)
    → 4 ≤ length bs → All (λ b. b < 256) bs
    → (from_four bs < 2 ^ 32) × (in_four (from_four bs) ++ drop 4 bs ≡ bs)
four_exact [] h a = absurd (omega arith)
four_exact (x ∷ []) h a = absurd (omega arith)
four_exact (x ∷ y ∷ []) h a = absurd (omega arith)
four_exact (x ∷ y ∷ z ∷ []) h a = absurd (omega arith)
four_exact (x ∷ y ∷ z ∷ w ∷ bs) h a =
    let four = x ∷ y ∷ z ∷ w ∷ [] in
    let at = byte_at four (All-take (λ b. b < 256) 4 (x ∷ y ∷ z ∷ w ∷ bs) a) in
    (omega (arith, at 0, at 1, at 2, at 3), ap (λ (l : List ℕ). l ++ bs) (be_bytes_4 four _ refl at refl))

-- seven bytes are those of the fault that they stand for
seven_exact : (bs : List ℕ)
    → length bs ≡ 7 → All (λ b. b < 256) bs → FaultFits (fault_in bs) × (in_fault (fault_in bs) ≡ bs)
seven_exact [] h a = absurd (omega arith)
seven_exact (x ∷ []) h a = absurd (omega arith)
seven_exact (x ∷ y ∷ []) h a = absurd (omega arith)
seven_exact (x ∷ y ∷ z ∷ []) h a = absurd (omega arith)
seven_exact (x ∷ y ∷ z ∷ p ∷ []) h a = absurd (omega arith)
seven_exact (x ∷ y ∷ z ∷ p ∷ q ∷ []) h a = absurd (omega arith)
seven_exact (x ∷ y ∷ z ∷ p ∷ q ∷ r ∷ []) h a = absurd (omega arith)
seven_exact (x ∷ y ∷ z ∷ p ∷ q ∷ r ∷ s ∷ (w ∷ bs)) h a = absurd (omega arith)
seven_exact (x ∷ y ∷ z ∷ p ∷ q ∷ r ∷ s ∷ []) h a =
    let at_p : p < 256 = a 3 0 (omega arith) in
    let at_q : q < 256 = a 4 0 (omega arith) in
    let at_r : r < 256 = a 5 0 (omega arith) in
    let at_s : s < 256 = a 6 0 (omega arith) in (
      record {
        layer_fits = a 0 0 (omega arith);
        depth_fits = a 1 0 (omega arith);
        number_fits = a 2 0 (omega arith);
        place_fits = omega arith;
        offset_fits = omega arith;
      },
      ap (λ (l : List ℕ). x ∷ y ∷ z ∷ (l ++ in_two (r * 256 + s))) (two_forth p q at_p at_q)
          ∙ ap (λ (l : List ℕ). x ∷ y ∷ z ∷ p ∷ q ∷ l) (two_forth r s at_r at_s),
    )

-- a plan of 1 to 256 bytes, each 0 or 1, has a record
unspoilt : (bytes : List ℕ) → 0 < length bytes → length bytes ≤ 256 → stray bytes ≡ None → flaw_of bytes ≡ None
unspoilt bytes h k e = rw (lt-ltb 0 (length bytes) h, le-leb (length bytes) 256 k, e)

refusing_ok : (x : Option ℕ) (v o : Outcome) → refusing (option_map flaw.PlanByte x) v ≡ Ok o → (x ≡ None) × (v ≡ o)
refusing_ok None v o h = (refl, cc)
refusing_ok (Some i) v o h = (cc, cc)

-- an accepted body is that of its outcome: of a plan, of none, of a refusal
plan_exact : (bs : List ℕ) (o : Outcome)
    → 5 ≤ length bs → length bs ≤ 260 → All (λ b. b < 256) bs → body_in 33 bs ≡ Ok o → RecordOf (framed 33 bs) o
plan_exact bs o h k a e =
    let f = four_exact bs (omega arith) a in
    let r = refusing_ok (stray (drop 4 bs)) (planned (drop 4 bs) (from_four bs)) o e in
    subst (RecordOf (framed 33 bs)) r.1
    (record {
      fits = f.0;
      writable = unspoilt (drop 4 bs) (simp length-drop (omega arith)) (simp length-drop (omega arith)) r.0;
      same = ap (framed 33) f.1;
    })

none_exact : (bs : List ℕ) (o : Outcome)
    → length bs ≡ 4 → All (λ b. b < 256) bs → body_in 34 bs ≡ Ok o → RecordOf (framed 34 bs) o
none_exact bs o h a e =
    let f = four_exact bs (omega arith) a in
    let r : never (from_four bs) ≡ o = cc in
    subst (RecordOf (framed 34 bs)) r
    (record { fits = f.0; writable = refl; same = ap (framed 34) (rw (drop_all 4 bs (omega arith)) at f.1) })

refusal_exact : (bs : List ℕ) (o : Outcome)
    → length bs ≡ 7 → All (λ b. b < 256) bs → body_in 35 bs ≡ Ok o → RecordOf (framed 35 bs) o
refusal_exact bs o h a e =
    let f = seven_exact bs h a in
    let r : refused (fault_in bs) ≡ o = cc in
    subst (RecordOf (framed 35 bs)) r (record { fits = f.0; writable = refl; same = ap (framed 35) f.1 })

body_exact : (t : ℕ) (bs : List ℕ) (o : Outcome)
    → head_of t (length bs) ≡ Ok tt → All (λ b. b < 256) bs → body_in t bs ≡ Ok o → RecordOf (framed t bs) o
body_exact t bs o h a e =
    elim (kinds t (length bs) h) [
      | inl p ↦ as_tag 33 p.0 (plan_exact bs o p.1 p.2 a (tagged 33 p.0))
      | inr q ↦ elim q [
        | inl p ↦ as_tag 34 p.0 (none_exact bs o p.1 a (tagged 34 p.0))
        | inr p ↦ as_tag 35 p.0 (refusal_exact bs o p.1 a (tagged 35 p.0))
      ]
    ]
  where
    tagged : (k : ℕ) → t ≡ k → body_in k bs ≡ Ok o
    tagged k p = subst (λ (x : ℕ). body_in x bs ≡ Ok o) p e

    as_tag : (k : ℕ) → t ≡ k → RecordOf (framed k bs) o → RecordOf (framed t bs) o
    as_tag k p r = subst (λ (x : ℕ). RecordOf (framed x bs) o) (sym p) r

-- bytes that are accepted are what would be written
exact : (bs : List ℕ) (o : Outcome) → All (λ b. b < 256) bs → decode bs ≡ Ok o → RecordOf bs o
exact [] o a h = absurd (omega (arith, (accepted [] o h).three))
exact (t ∷ []) o a h = absurd (omega (arith, (accepted (t ∷ []) o h).three))
exact (t ∷ x ∷ []) o a h = absurd (omega (arith, (accepted (t ∷ x ∷ []) o h).three))
exact (t ∷ x ∷ y ∷ bs) o a h =
    let c = accepted (t ∷ x ∷ y ∷ bs) o h in
    let n : x * 256 + y ≡ length bs = omega (arith, c.long) in
    let e : framed t bs ≡ t ∷ x ∷ y ∷ bs =
    ap (λ (k : ℕ). t ∷ (in_two k ++ bs)) (sym n)
    ∙ ap (λ (l : List ℕ). t ∷ (l ++ bs)) (two_forth x y (a 1 0 (omega arith)) (a 2 0 (omega arith))) in
    subst (λ (l : List ℕ). RecordOf l o) e
    (body_exact t bs o (subst (λ (k : ℕ). head_of t k ≡ Ok tt) n c.head) (All-drop (λ b. b < 256) 3 (t ∷ x ∷ y ∷ bs) a) c.body)

pub laws : AnswerLaws
laws =
    record {
      back = written_back;
      exact = exact;
      one = λ bs cs o a b h k. sym (exact bs o a h).same ∙ (exact cs o b k).same;
    }
