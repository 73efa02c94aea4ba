-- A repeated rule: its run exists, is the only one, ends where no step is left, and has the three points.
use Rattle.std.proofs.Common.{◌≡◌, ℕ, zero, suc, ◌<◌, true, List, [], ◌∷◌, sym, refl, subst, arith}
use Rattle.laws.specs.Clauses.{all_true}
use Rattle.laws.specs.Plans.{PlanOf, Possible}
use Rattle.laws.specs.Reductions.{NoLarger}
use Rattle.laws.specs.Rules.{Next, RuleMeaning, Ran, Runs, Safe, Repetition, run_from, undo_all}
use Rattle.laws.specs.Rules.Next.{stop, step}
use Rattle.laws.specs.Rules.Runs.{ends, goes}
use Rattle.laws.specs.Tables.{Tab, Lawful}
use Rattle.laws.proofs.Options.{no}
use Rattle.laws.proofs.Reductions.{no_larger_itself, no_larger_trans}

module _ {N : Type 0} where
  -- what a run shows of its first table t and its last one v: each plan of v goes back to some plan of t
  record RunOf (r : RuleMeaning N) (notes : List N) (t : Tab) (ms : List N) (v : Tab) : Type 0 where
    table : Lawful v
    no_larger : NoLarger t v
    led :
        (p : List ℕ) → PlanOf t.last p
        → (q : List ℕ) × PlanOf t.last q × (undo_all r ms p ≡ undo_all r notes q)
        × (all_true p v.clauses ≡ true → all_true q t.clauses ≡ true)
    possible : Possible t → Possible v

  run_of :
      (r : RuleMeaning N) → Safe r → {notes ms : List N} {t v : Tab} → Runs r notes t ms v → Lawful t
      → RunOf r notes t ms v
  run_of r safe {t = t} (ends e) ok =
      record {
        table = ok;
        no_larger = no_larger_itself t;
        led = λ p plan. (p, plan, refl, λ h. h);
        possible = λ h. h;
      }
  run_of r safe {notes} {ms} {t} {v} (goes {u = u} {n = n} e more) ok =
      let good = safe notes t ok n u e in
      let rest = run_of r safe more good.table in
      let same = good.no_larger.same_last in
      record {
        table = rest.table;
        no_larger = no_larger_trans t u v good.no_larger rest.no_larger;
        led =
            λ p plan.
            let q = rest.led p (subst (λ m. PlanOf m p) (sym same) plan) in
            let here = subst (λ m. PlanOf m q.0) same q.1 in
            (r.undo n q.0, good.plans q.0 here, q.2, λ h. good.back q.0 here (q.3 h));
        possible = λ h. rest.possible (good.possible h);
      }

  -- a run ends where no step is left
  run_ends : (r : RuleMeaning N) {notes ms : List N} {t v : Tab} → Runs r notes t ms v → r.next ms v ≡ stop
  run_ends r (ends e) = e
  run_ends r (goes e more) = run_ends r more

  -- two runs from one place end at one place
  run_only :
      (r : RuleMeaning N) {notes ms ns : List N} {t v w : Tab} → Runs r notes t ms v → Runs r notes t ns w
      → (ms ≡ ns) × (v ≡ w)
  run_only r (ends e) (ends f) = (refl, refl)
  run_only r (ends e) (goes f other) = no (cc)
  run_only r (goes e more) (ends f) = no (cc)
  run_only r {notes} {ms} {ns} {t} {v} {w} (goes {u = u} {n = n} e more) (goes {u = y} {n = m} f other) =
      let one : m ≡ n = cc in
      let two : y ≡ u = cc in
      run_only r more (subst (λ a. Runs r (a ∷ notes) u ns w) one (subst (λ b. Runs r (m ∷ notes) b ns w) two other))

  -- where a run with k more steps ends, by what is next
  abbrev after : RuleMeaning N → ℕ → List N → Tab → Next N → Ran N
  after r k notes t stop = record { notes = notes; table = t }
  after r k notes t (step n u) = run_from r k (n ∷ notes) u

  -- more steps than the size make the run
  run_from_lem :
      (r : RuleMeaning N) → Safe r → (k : ℕ) (notes : List N) (t : Tab) → Lawful t → r.size t < k
      → Runs r notes t (run_from r k notes t).notes (run_from r k notes t).table
  unfolding run_from
  run_from_lem r safe zero notes t ok h = absurd (omega arith)
  run_from_lem r safe (suc k) notes t ok h =
      elim (r.next notes t)
      as (λ x. r.next notes t ≡ x → Runs r notes t (after r k notes t x).notes (after r k notes t x).table) [
        | stop ↦ λ e. ends e
        | step n u ↦
            λ e.
            let good = safe notes t ok n u e in
            goes e (run_from_lem r safe k (n ∷ notes) u good.table (omega arith))
      ] refl

pub repetition : {N : Type 0} → Repetition N
repetition r safe t ok =
    let runs = run_from_lem r safe (suc (r.size t)) [] t ok (omega arith) in
    let shown = run_of r safe runs ok in
    record {
      points =
          record {
            table = shown.table;
            plans = λ p plan. let q = shown.led p plan in subst (PlanOf t.last) (sym q.2) q.1;
            back = λ p plan h. let q = shown.led p plan in subst (λ x. all_true x t.clauses ≡ true) (sym q.2) (q.3 h);
            possible = shown.possible;
            no_larger = shown.no_larger;
          };
      runs = runs;
      only = λ ms v other. run_only r other runs;
      no_step_left = run_ends r runs;
    }
