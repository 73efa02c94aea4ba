-- What each test of a reading tells, in plain arithmetic.
use Rattle.std.proofs.Common.{◌≡◌, ℕ, ◌%◌, ◌≤◌, Bool, true, false, eqb, leb, List, length, Decides, sym, refl, subst, inl, inr, arith}
use mathlib.Core.Bool.{beq}
use Rattle.std.proofs.lemmas.Bool.{false≢true, leb-true, le-leb, not-true}
use Rattle.std.proofs.lemmas.Bool.Decides.{Decides-eqb, Decides-or, Decides-not, Decides-like}
use Rattle.records.specs.Reading.{behind, is_known, is_fit}
use Rattle.records.specs.Refusals.{Whole, Known, Placed, Fit}

-- a test that tells of what does not hold fails
pub fails : {P : Type 0} (r : Bool) → Decides r P → (P → ⊥) → r ≡ false
fails r d np = not-true r ((Decides-not r d).1 np)

pub tells_whole : (file : List ℕ) (at : ℕ) → Decides (leb (behind file at) (length file)) (Whole file at)
tells_whole file at =
    (λ h. let b : behind file at ≤ length file = leb-true _ _ h in (omega arith, b), λ w. le-leb _ _ w.1)

pub tells_known : (tag : ℕ) → Decides (is_known tag) (Known tag)
tells_known tag =
    Decides-or _ _ (Decides-eqb tag 1) (Decides-or _ _ (Decides-eqb tag 2) (Decides-or _ _ (Decides-eqb tag 3) (Decides-eqb tag 15)))

-- two tests agree exactly if what they tell of is the same
tells_alike : {P Q : Type 0} (a b : Bool) → Decides a P → Decides b Q → Decides (beq a b) ((P → Q) × (Q → P))
tells_alike true true p q = (λ _. (λ _. q.0 refl, λ _. p.0 refl), λ _. refl)
tells_alike true false p q = (λ h. absurd (false≢true h), λ w. q.1 (w.0 (p.0 refl)))
tells_alike false true p q = (λ h. absurd (false≢true h), λ w. p.1 (w.1 (q.0 refl)))
tells_alike false false p q = (λ _. (λ x. absurd (false≢true (p.1 x)), λ y. absurd (false≢true (q.1 y))), λ _. refl)

pub tells_placed : (tag at : ℕ) → Decides (beq (eqb tag 1) (eqb at 0)) (Placed tag at)
tells_placed tag at = tells_alike _ _ (Decides-eqb tag 1) (Decides-eqb at 0)

pub tells_fit : (tag size : ℕ) → Known tag → Decides (is_fit tag size) (Fit tag size)
tells_fit tag size known =
    let Goal : ℕ → Type 0 = λ t. Decides (is_fit t size) (Fit t size) in
    elim known [
      | inl p ↦ subst Goal (sym p) (Decides-like (eqb size 1)
          (λ s. record { header = λ _. s; clause = λ e. absurd (omega arith); pin = λ e. absurd (omega arith); finish = λ e. absurd (omega arith) })
          (λ f. f.header refl) (Decides-eqb size 1))
      | inr (inl p) ↦ subst Goal (sym p) (Decides-like (eqb (size % 2) 0)
          (λ s. record { header = λ e. absurd (omega arith); clause = λ _. s; pin = λ e. absurd (omega arith); finish = λ e. absurd (omega arith) })
          (λ f. f.clause refl) (Decides-eqb (size % 2) 0))
      | inr (inr (inl p)) ↦ subst Goal (sym p) (Decides-like (eqb size 2)
          (λ s. record { header = λ e. absurd (omega arith); clause = λ e. absurd (omega arith); pin = λ _. s; finish = λ e. absurd (omega arith) })
          (λ f. f.pin refl) (Decides-eqb size 2))
      | inr (inr (inr p)) ↦ subst Goal (sym p) (Decides-like (eqb size 0)
          (λ s. record { header = λ e. absurd (omega arith); clause = λ e. absurd (omega arith); pin = λ e. absurd (omega arith); finish = λ _. s })
          (λ f. f.finish refl) (Decides-eqb size 0))
    ]
