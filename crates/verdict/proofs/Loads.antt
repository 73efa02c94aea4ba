-- Every sheet file comes to one thing, and to one only.
use Rattle.std.proofs.Common.{◌≡◌, ℕ, zero, suc, ◌+◌, ◌-◌, ◌<◌, Bool, true, false, List, length, sym, refl, ap, ◌∙◌, subst, arith}
use Rattle.std.proofs.lemmas.Bool.{both_ways}
use Rattle.laws.specs.declared.fault.Fault.{Fault}
use Rattle.records.specs.Entries.{Entry, header, clause, pin, finish, is_end}
use Rattle.records.specs.Reading.{Reading, read_at, gives, refuses}
use Rattle.records.proofs.Readings.{onward}
use Rattle.verdict.specs.Hours.{Asked, nothing, Loaded, done, stopped, fed}
use Rattle.verdict.specs.Loading.{Loading, ends, breaks, stops, goes, LoadsOne}

-- the end record changes nothing
fed_end : (h : Asked) (at : ℕ) (e : Entry) → is_end e ≡ true → fed h at e ≡ done h
fed_end h at (header n) t = cc
fed_end h at (clause bytes offset) t = cc
fed_end h at (pin l) t = cc
fed_end h at finish t = refl

-- what is read here is read once
same_entry : {r : Reading} {n m : ℕ} {e d : Entry} → r ≡ gives e n → r ≡ gives d m → d ≡ e
same_entry p q = cc

same_next : {r : Reading} {n m : ℕ} {e d : Entry} → r ≡ gives e n → r ≡ gives d m → m ≡ n
same_next p q = cc

same_refusal : {r : Reading} {f g : Fault} → r ≡ refuses f → r ≡ refuses g → stopped g ≡ stopped f
same_refusal p q = let e : _ ≡ _ = cc in ap stopped e

not_both : {r : Reading} {n : ℕ} {e : Entry} {f : Fault} → r ≡ gives e n → r ≡ refuses f → ⊥
not_both p q = let z : ◌≡◌ {A = ℕ} 0 1 = cc in omega arith

-- and so is what comes of a record
same_hour : {x : Loaded} {h k : Asked} → x ≡ done h → x ≡ done k → k ≡ h
same_hour p q = cc

same_stop : {x : Loaded} {f g : Fault} → x ≡ stopped f → x ≡ stopped g → stopped g ≡ stopped f
same_stop p q = sym q ∙ p

done_not_stopped : {x : Loaded} {h : Asked} {f : Fault} → x ≡ done h → x ≡ stopped f → ⊥
done_not_stopped p q = let z : ◌≡◌ {A = ℕ} 0 1 = cc in omega arith

only_one : (src : List ℕ) (at : ℕ) (h : Asked) (x y : Loaded) → Loading src at h x → Loading src at h y → y ≡ x
only_one src at h x y (ends r t) (ends s u) = refl
only_one src at h x y (ends r t) (breaks s) = absurd (not_both r s)
only_one src at h x y (ends {e} r t) (stops s g) =
    absurd (done_not_stopped (ap (fed h at) (same_entry r s) ∙ fed_end h at e t) g)
only_one src at h x y (ends r t) (goes s u g l) = absurd (both_ways _ u (ap is_end (same_entry r s) ∙ t))
only_one src at h x y (breaks r) (ends s u) = absurd (not_both s r)
only_one src at h x y (breaks r) (breaks s) = same_refusal r s
only_one src at h x y (breaks r) (stops s g) = absurd (not_both s r)
only_one src at h x y (breaks r) (goes s u g l) = absurd (not_both s r)
only_one src at h x y (stops r f) (ends {e = d} s u) =
    absurd (done_not_stopped (ap (fed h at) (same_entry s r) ∙ fed_end h at d u) f)
only_one src at h x y (stops r f) (breaks s) = absurd (not_both r s)
only_one src at h x y (stops r f) (stops s g) = same_stop f (ap (fed h at) (same_entry s r) ∙ g)
only_one src at h x y (stops r f) (goes s u g l) = absurd (done_not_stopped (ap (fed h at) (same_entry s r) ∙ g) f)
only_one src at h x y (goes r t f k) (ends s u) = absurd (both_ways _ t (ap is_end (same_entry s r) ∙ u))
only_one src at h x y (goes r t f k) (breaks s) = absurd (not_both r s)
only_one src at h x y (goes r t f k) (stops s g) = absurd (done_not_stopped (ap (fed h at) (same_entry r s) ∙ f) g)
only_one src at h x y (goes {n} {k = a} r t f k) (goes {n = m} {k = b} s u g l) =
    let same = same_hour f (ap (fed h at) (same_entry s r) ∙ g) in
    only_one src n a x y k (subst (λ j. Loading src j a y) (same_next r s) (subst (λ c. Loading src m c y) same l))

-- by what is read here, if it holds from behind each record
some_here : (src : List ℕ) (at : ℕ) (h : Asked) (r : Reading) → read_at src at ≡ r
    → ((e : Entry) (n : ℕ) (k : Asked) → read_at src at ≡ gives e n → (x : Loaded) × Loading src n k x)
    → (x : Loaded) × Loading src at h x
some_here src at h (refuses f) r on = (stopped f, breaks r)
some_here src at h (gives e n) r on = fed_here (fed h at e) (is_end e) refl refl where
  fed_here : (x : Loaded) (b : Bool) → fed h at e ≡ x → is_end e ≡ b → (x : Loaded) × Loading src at h x
  fed_here x true f t = (done h, ends r t)
  fed_here (stopped g) false f t = (stopped g, stops r f)
  fed_here (done k) false f t = let l = on e n k r in (l.0, goes r t f l.1)

some_within : (m : ℕ) (src : List ℕ) (at : ℕ) (h : Asked) → length src - at < m → (x : Loaded) × Loading src at h x
some_within zero src at h l = absurd (omega arith)
some_within (suc m) src at h l =
    some_here src at h (read_at src at) refl (λ e n k r.
    let on = onward src at e n r in
    some_within m src n k (omega arith))

pub loads_one : LoadsOne
loads_one src =
    let p = some_within (length src - 0 + 1) src 0 (nothing 0) (omega arith) in
    record { comes_to = p.0; so = p.1; only = λ x l. only_one src 0 (nothing 0) p.0 x p.1 l }
