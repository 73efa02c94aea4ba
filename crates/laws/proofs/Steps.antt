-- Rules whose next step goes by an answer or by a test: what a step says, and what is known where none is left.
use Rattle.std.proofs.Common.{◌≡◌, Bool, true, false, cond, Some, None, Option, refl, subst}
use Rattle.laws.specs.Rules.{Next}
use Rattle.laws.specs.Rules.Next.{stop, step}
use Rattle.laws.specs.Tables.{Tab}
use Rattle.laws.proofs.Options.{no}

module _ {N : Type 0} (P : N → Tab → Type 0) where
  -- equal steps have equal notes and tables
  same_step : (m n : N) (v u : Tab) → step m v ≡ step n u → P m v → P n u
  same_step m n v u e h =
      let one : m ≡ n = cc in
      let two : v ≡ u = cc in
      subst (λ k. P k u) one (subst (P m) two h)

  -- a step where the test holds
  pub step_if : (b : Bool) (m : N) (v : Tab) → (b ≡ true → P m v) → (n : N) (u : Tab) → cond b (step m v) stop ≡ step n u → P n u
  step_if true m v h n u e = same_step m n v u e (h refl)
  step_if false m v h n u e = no (cc)

  -- a step by the answer
  pub step_by :
      {X : Type 0} (note : X → N) (after : X → Tab) (o : Option X) → ((x : X) → o ≡ Some x → P (note x) (after x))
      → (n : N) (u : Tab) → ◌≡◌ {A = Next N} (elim o [ None ↦ stop | Some x ↦ step (note x) (after x) ]) (step n u) → P n u
  step_by note after None h n u e = no (cc)
  step_by note after (Some x) h n u e = same_step (note x) n (after x) u e (h x refl)

module _ {N : Type 0} where
  -- where no step is left, the test fails
  pub stop_if : (b : Bool) (m : N) (v : Tab) → cond b (step m v) stop ≡ stop → b ≡ false
  stop_if true m v e = no (cc)
  stop_if false m v e = refl

  -- where no step is left, the answer is missing
  pub stop_by :
      {X : Type 0} (note : X → N) (after : X → Tab) (o : Option X)
      → ◌≡◌ {A = Next N} (elim o [ None ↦ stop | Some x ↦ step (note x) (after x) ]) stop → o ≡ None
  stop_by note after None e = refl
  stop_by note after (Some x) e = no (cc)
