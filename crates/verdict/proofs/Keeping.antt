-- The verdict says that the plan keeps the sheet exactly if it does.
use Rattle.std.proofs.Common.{◌≡◌, ℕ, ◌+◌, Bool, true, false, cond, eqb, ◌↔◌, List, length, Ok, Err, Result, sym, refl, ◌∙◌, arith}
use Rattle.std.proofs.lemmas.Bool.{eqb-true, eqb-false}
use Rattle.laws.specs.Clauses.{Keeps}
use Rattle.laws.specs.Outcomes.{Outcome, planned, never, refused}
use Rattle.laws.specs.Plans.{broken}
use Rattle.laws.proofs.Broken.{breakage}
use Rattle.laws.proofs.Truth.{truth}
use Rattle.verdict.specs.declared.failure.Failure.{Failure}
use Rattle.verdict.specs.declared.failure.Failure.TheVariants.{PlanLength}
use Rattle.verdict.specs.declared.verdict.Verdict.{Verdict}
use Rattle.verdict.specs.declared.verdict.Verdict.TheVariants as verdicts
use Rattle.verdict.specs.Hours.{Asked}
use Rattle.verdict.specs.Judging.{judge, counted, all_of}
use Rattle.verdict.specs.Reported.{Kept}

-- nothing is counted exactly if the verdict is that the plan keeps the sheet
counted_keeps : (n m : ℕ) → (counted n m ≡ verdicts.Keeps) ↔ (n ≡ 0)
counted_keeps n m = by (eqb n 0) refl where
  by : (b : Bool) → eqb n 0 ≡ b → (cond b verdicts.Keeps (verdicts.Breaks n m) ≡ verdicts.Keeps) ↔ (n ≡ 0)
  by true t = (λ _. eqb-true n 0 t, λ _. refl)
  by false t = (λ e. cc, λ e. absurd (eqb-false n 0 t e))

-- a verdict on a plan, by whether the plan has one byte for each choice
module _ (h : Asked) (p : List ℕ) (v : Verdict) where
  by_length : (b : Bool) → eqb (length p) (h.clauses.last + 1) ≡ b
      → ◌≡◌ {A = Result Verdict Failure}
      (cond b (Ok (counted (broken p (all_of h)) (length (all_of h)))) (Err (PlanLength (length p) (h.clauses.last + 1)))) (Ok v)
      → (v ≡ verdicts.Keeps) ↔ ((length p ≡ h.clauses.last + 1) × Keeps p (all_of h))
  by_length true t j =
      let same : counted (broken p (all_of h)) (length (all_of h)) ≡ v = cc in
      let none = counted_keeps (broken p (all_of h)) (length (all_of h)) in
      let all = (breakage p (all_of h)).none_counted in
      let true-in = truth p (all_of h) in (
        λ e. (eqb-true (length p) (h.clauses.last + 1) t, true-in.0 (all.0 (none.0 (same ∙ e)))),
        λ k. sym same ∙ none.1 (all.1 (true-in.1 k.1)),
      )
  by_length false t j = let z : ◌≡◌ {A = ℕ} 0 1 = cc in absurd (omega arith)

pub kept_exactly : (h : Asked) (o : Outcome) (v : Verdict) → judge h o ≡ Ok v → (v ≡ verdicts.Keeps) ↔ Kept h o
kept_exactly h (planned p work) v j = by_length h p v (eqb (length p) (h.clauses.last + 1)) refl j
kept_exactly h (never work) v j = (λ e. let z : ◌≡◌ {A = ℕ} 0 1 = cc in omega arith, λ x. absurd x)
kept_exactly h (refused f) v j = (λ e. let z : ◌≡◌ {A = ℕ} 0 1 = cc in omega arith, λ x. absurd x)
