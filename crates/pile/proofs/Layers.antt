-- A plan from below, led back in the buffer, is the layer's plan.
use Rattle.std.proofs.Common.{◌≡◌, ℕ, ◌+◌, ◌≤◌, true, false, cond, ltb, List, ◌++◌, length, take, drop, Ok, Err, Result, sym, refl, ap, ◌∙◌, subst, arith}
use lib.Seq.{take-append_seam}
use Rattle.std.proofs.lemmas.List.{length-append, length-drop}
use Rattle.std.proofs.lemmas.Slice.{drop-append-drop}
use Rattle.std.proofs.lemmas.Bool.{cond-false, ltb-false}
use Rattle.laws.specs.declared.fault.Fault.{Fault}
use Rattle.laws.specs.Faults.{fault}
use Rattle.laws.specs.Outcomes.{Outcome}
use Rattle.laws.specs.Outcomes.Outcome.{planned, refused}
use Rattle.laws.specs.Piles.{passed_up}
use Rattle.laws.specs.Reductions.{ReductionMeaning, Points}
use Rattle.laws.specs.Solvers.{Solves}
use Rattle.laws.specs.Tables.{Tab, Lawful}
use Rattle.table.specs.declared.error.Error.{Error}
use Rattle.table.specs.declared.error.Error.TheVariants.{Refused, Memory}
use Rattle.pile.specs.declared.answer.Answer.{Answer}
use Rattle.pile.specs.declared.answer.Answer.TheVariants.{Plan}
use Rattle.pile.specs.Came.{Came, raised_result}
use Rattle.table.specs.Judged.{enough}
use Rattle.pile.specs.Ways.{Way, way_of, rebuilt}

-- a buffer that was found long enough is
pub long_enough : (bytes : ℕ) (b : List ℕ) (x : Unit {0}) → Ok x ≡ enough bytes b → ltb (length b) bytes ≡ false
long_enough bytes b x h =
    elim (ltb (length b) bytes) as (λ v. ◌≡◌ {A = Result (Unit {0}) Fault} (Ok x) (cond v (Err (fault 3 31 0)) (Ok tt)) → v ≡ false)
    [ true ↦ λ e. let z : ◌≡◌ {A = ℕ} 0 1 = cc in absurd (omega arith) | false ↦ λ e. refl ] h

-- what passes up as an answer was one below
pub was_answer : (r : Result Answer Error) (a : Answer) → raised_result r ≡ Ok a → r ≡ Ok a
was_answer (Ok x) a e = e
was_answer (Err (Refused f)) a e = let z : ◌≡◌ {A = ℕ} 0 1 = cc in absurd (omega arith)
was_answer (Err Memory) a e = let z : ◌≡◌ {A = ℕ} 0 1 = cc in absurd (omega arith)

-- the front of a buffer whose front was written
pub front_of : (n : ℕ) (p b : List ℕ) → length p ≡ n → take n (p ++ drop n b) ≡ p
front_of n p b long = subst (λ k. take k (p ++ drop n b) ≡ p) long (take-append_seam p (drop n b))

-- and its length stays
pub length_written : (n : ℕ) (p b : List ℕ) → length p ≡ n → n ≤ length b → length (p ++ drop n b) ≡ length b
length_written n p b long fits = omega (arith, length-append p (drop n b), length-drop n b)

module _ (m : ReductionMeaning) (below : Tab → Outcome) (t : Tab) (b : List ℕ) (ok : Lawful t) (points : Points m t)
    (right : Solves below) (long : ltb (length b) (t.last + 1) ≡ false) where
  pub plan_led_back :
      (u : Tab) (h : Way) (b₁ a : List ℕ) (w : ℕ) → u ≡ m.smaller t → h ≡ way_of m t → Came u below b (Ok (Plan w)) b₁
      → a ≡ rebuilt h b₁ → Came t (λ v. passed_up m v (below (m.smaller v))) b (Ok (Plan w)) a
  plan_led_back u h b₁ a w is way came after =
      let small = m.smaller t in
      let same = points.no_larger.same_last in
      let got = subst (λ v. Came v below b (Ok (Plan w)) b₁) is came in
      let q = got.0 in
      let fits : ltb (length b) (small.last + 1) ≡ false = ap (λ n. ltb (length b) (n + 1)) same ∙ long in
      let answer : below small ≡ planned q w = sym (cond-false (ltb (length b) (small.last + 1)) (refused (fault 3 31 0)) (below small) fits) ∙ got.1 in
      let n = t.last + 1 in
      let size : length q ≡ n = ((right small points.table).is_plan q w answer).long ∙ ap (λ k. k + 1) same in
      let front : b₁ ≡ q ++ drop n b = got.2 ∙ ap (λ k. q ++ drop (k + 1) b) same in
      let whole : length b₁ ≡ length b = ap length front ∙ length_written n q b size (ltb-false (length b) n long) in
      let enough_still : ltb (length b₁) n ≡ false = ap (λ k. ltb k n) whole ∙ long in (
        m.back t q,
        cond-false (ltb (length b) n) (refused (fault 3 31 0)) (passed_up m t (below small)) long ∙ ap (passed_up m t) answer,
        after ∙ ap (λ v. rebuilt v b₁) way
            ∙ cond-false (ltb (length b₁) n) b₁ (m.back t (take n b₁) ++ drop n b₁) enough_still
            ∙ ap (λ c. m.back t (take n c) ++ drop n c) front
            ∙ ap (λ f. m.back t f ++ drop n (q ++ drop n b)) (front_of n q b size)
            ∙ ap (λ r. m.back t q ++ r) (drop-append-drop n b q n (omega arith) size),
      )
